-- `adding::choosing::choose` meets its contract. The invariant: the chosen ones below i are there. Assumes nothing.
use mathlib.Core.Path.{◌≡◌}
use lib.ListN.{length}
use Rattle.adding.specs.Choosing.{ChosenTo}
use Rattle.adding.proofs.choosing.choose.Given as goal

abbrev pub invariant-loop-i : goal.invariant-loop-i
invariant-loop-i l = ChosenTo l.list l.selection l.i l.n l.chosen × (length l.chosen ≡ length l.initial.chosen)
