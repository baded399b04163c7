-- `cases::rows::target_in` meets its contract. Assumes nothing.
use Rattle.cases.specs.Rows.{target_in}
use Rattle.cases.proofs.rows.target_in.Goals as goal

pub returns : goal.returns
unfolding target_in
returns c = rw (c.from.ensures, c.row_in.ensures)
