-- `adding::choosing::rows_with` meets its contract: the chosen ones, the edges, and the chosen ones behind them. Assumes nothing.
use Rattle.adding.proofs.Chosen.{rows_hold}
use Rattle.adding.proofs.choosing.rows_with.Goals as goal

pub returns : goal.returns
returns c = search rows_hold
