-- `justifying::justification::level_fault` meets its contract. The invariant: the pairs of the shapes below s are justified, if they are supported. Assumes nothing.
use Rattle.justifying.proofs.Justified.{JustifiedRows}
use Rattle.justifying.proofs.justification.level_fault.Given as goal

abbrev pub invariant-loop-s : goal.invariant-loop-s
invariant-loop-s l = JustifiedRows l.counts l.rows l.sets l.valid l.possible l.levels l.pairs l.s
