-- `pairs::writing::write_verdicts` meets its contract. The invariant: the verdicts of the targets below i are put. Assumes nothing.
use Rattle.fixpoint.specs.Entries.{Put}
use Rattle.pairs.proofs.Tallying.{verdict_at}
use Rattle.pairs.proofs.writing.write_verdicts.Given as goal

abbrev pub invariant-loop-i : goal.invariant-loop-i
invariant-loop-i l = Put (verdict_at l.counts l.rows l.values) 0 l.i l.initial.verdicts l.verdicts
