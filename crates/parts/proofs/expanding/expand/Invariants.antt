-- `parts::expanding::expand` meets its contract. The loop's invariant: the first i shapes have their rows (`Expanding`).
-- Assumes nothing.
use Rattle.parts.proofs.Renumbering.{Expanding}
use Rattle.parts.proofs.expanding.expand.Given as goal

abbrev pub invariant-loop-i : goal.invariant-loop-i
invariant-loop-i l = Expanding l.counts l.fresh l.count l.initial.rows l.rows l.i
