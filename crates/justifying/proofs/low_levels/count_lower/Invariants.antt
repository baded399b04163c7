-- `justifying::low_levels::count_lower` meets its contract. The invariant: n counts the nodes of the first i words. Assumes nothing.
use Rattle.justifying.specs.LevelRows.{is_low}
use Rattle.justifying.proofs.Lowered.{PassingTo}
use Rattle.justifying.proofs.low_levels.count_lower.Given as goal

abbrev pub invariant-loop-i : goal.invariant-loop-i
invariant-loop-i l =
    PassingTo (is_low l.levels l.low.bound l.low.size l.low.shape.0) l.sets l.row l.set l.low.shape.0 l.low.size.words l.i l.n
