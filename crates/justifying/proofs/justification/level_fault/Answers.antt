use Rattle.cases.proofs.Faulted.{refused_some}
use Rattle.support.proofs.Passing.{refused_on}
use Rattle.justifying.proofs.Justified.{justified_rows_more, justified_rows_first, justified_rows_all}
use Rattle.justifying.proofs.justification.level_fault.Goals as goal

pub returns-in_err-unjustified_shape : goal.returns-in_err-unjustified_shape
returns-in_err-unjustified_shape c =
    let e = c.in_err-unjustified_shape.ensures in rw (refused_on _ c.from_residual.result c.from_residual.ensures.1) (search (justified_rows_first, refused_some))

pub returns : goal.returns
returns c = search justified_rows_all

pub loop-s-preserved : goal.loop-s-preserved
loop-s-preserved c = let e = c.in_ok-unjustified_shape.ensures in search (justified_rows_more c.loop-s.invariant)
