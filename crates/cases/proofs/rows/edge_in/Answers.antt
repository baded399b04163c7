-- `cases::rows::edge_in` meets its contract. Assumes nothing.
use Rattle.cases.specs.Rows.{edge_in}
use Rattle.cases.proofs.rows.edge_in.Goals as goal

pub returns : goal.returns
unfolding edge_in
returns c = rw (c.from.ensures, c.row_in.ensures)
