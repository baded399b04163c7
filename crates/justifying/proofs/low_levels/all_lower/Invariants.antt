-- `justifying::low_levels::all_lower` meets its contract. The invariant: the levels at the nodes of the first i words are low. Assumes nothing.
use Rattle.justifying.specs.LevelRows.{is_low}
use Rattle.justifying.proofs.Lowered.{PassedTo}
use Rattle.justifying.proofs.low_levels.all_lower.Given as goal

abbrev pub invariant-loop-i : goal.invariant-loop-i
invariant-loop-i l = PassedTo (is_low l.levels l.low.bound l.low.size l.low.shape.0) l.sets l.row l.low.size.words l.i
