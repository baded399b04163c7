-- `justifying::justification::unjustified_row` meets its contract. The invariant: the pairs of the shape below k are justified, if they are
-- supported. Assumes nothing.
use Rattle.justifying.proofs.Justified.{JustifiedTo}
use Rattle.justifying.proofs.justification.unjustified_row.Given as goal

abbrev pub invariant-loop-k : goal.invariant-loop-k
invariant-loop-k l = JustifiedTo l.by.of l.sets l.valid l.possible l.levels l.pairs l.k
