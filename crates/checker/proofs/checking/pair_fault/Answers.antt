-- `checker::checking::pair_fault` meets its contract: the pass for 15 ends where the pass for 14 did. Assumes nothing.
use Rattle.std.proofs.Common.{rules}
use Rattle.cases.proofs.Faulted.{refused_some}
use Rattle.support.proofs.Passing.{refused_on}
use Rattle.checker.proofs.Checked.{supported_few, pairs_checked, pairs_refused}
use Rattle.checker.proofs.checking.pair_fault.Goals as goal

pub level_fault-requires-clause-pairs_bound : goal.level_fault-requires-clause-pairs_bound
level_fault-requires-clause-pairs_bound c = search (supported_few, rules)

pub returns-in_err-level_fault : goal.returns-in_err-level_fault
returns-in_err-level_fault c =
    let e = c.in_err-level_fault.ensures in rw (refused_on _ c.from_residual.result c.from_residual.ensures.1) (search (pairs_refused, refused_some))

pub returns : goal.returns
returns c = let e = c.in_ok-level_fault.ensures in search pairs_checked
