-- `checker::checking::check_pairs` meets its contract, with levels. Assumes nothing.
use Rattle.cases.proofs.Faulted.{refused_some}
use Rattle.support.proofs.Passing.{refused_on}
use Rattle.support.proofs.ValueFaults.{checked_first, checked_next}
use Rattle.checker.proofs.checking.check_pairs.Goals as goal

pub returns-in_err-propose : goal.returns-in_err-propose
returns-in_err-propose c =
    let e = c.in_err-propose.ensures in rw (refused_on _ c.from_residual.result c.from_residual.ensures.1) (search (checked_first, refused_some))

pub returns : goal.returns
returns c = let e = c.in_ok-propose.ensures in search checked_next
