-- `reader::reading::walk` meets its contract. The loop's invariant: what the input comes to is what the walk comes to from `at` with what the
-- tables hold (`Going`), and the rows keep their length. The measure is the bytes left. Assumes nothing.
use Prim.Native.Nat.{◌-◌}
use lib.ListN.{length}
use mathlib.Core.Path.{◌≡◌}
use Rattle.reader.proofs.Walking.{Going}
use Rattle.reader.proofs.reading.walk.Given as goal

abbrev pub invariant-loop-at : goal.invariant-loop-at
invariant-loop-at l = Going l.case l.at l.reached l.rows l.fresh l.named × (length l.rows ≡ length l.initial.rows)

abbrev pub decreases-loop-at : goal.decreases-loop-at
decreases-loop-at l = length l.case - l.at
