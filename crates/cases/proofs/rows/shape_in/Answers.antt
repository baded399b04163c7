-- `cases::rows::shape_in` meets its contract. Assumes nothing.
use Rattle.cases.specs.Rows.{shape_in}
use Rattle.cases.proofs.rows.shape_in.Goals as goal

pub returns : goal.returns
unfolding shape_in
returns c = rw (c.from.ensures, c.row_in.ensures)
