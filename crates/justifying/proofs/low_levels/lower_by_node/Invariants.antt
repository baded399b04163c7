-- `justifying::low_levels::lower_by_node` meets its contract. The invariant: the nodes that are not left are sorted out. Assumes nothing.
use Rattle.justifying.specs.LevelRows.{is_low}
use Rattle.justifying.proofs.Lowered.{SortedBut}
use Rattle.justifying.proofs.low_levels.lower_by_node.Given as goal

abbrev pub invariant-loop-j : goal.invariant-loop-j
invariant-loop-j l = SortedBut l.j-iterator.0 (is_low l.levels l.low.bound l.low.size l.low.shape.0) l.word l.i l.lower
