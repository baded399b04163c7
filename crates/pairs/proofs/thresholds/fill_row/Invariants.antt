-- `pairs::thresholds::fill_row` meets its contract. The invariant: of the nodes below a, those that have at least the value were added. Assumes
-- nothing.
use Prim.Native.Nat.{ℕ, ◌+◌, ◌*◌, ◌<◌}
use mathlib.Core.Path.{◌≡◌}
use mathlib.Core.Bool.{◌&&◌, ◌||◌}
use lib.ListN.{get_or}
use lib.Dec.{eqb, leb, ltb}
use Rattle.bitset.specs.Words.{member}
use Rattle.pairs.proofs.thresholds.fill_row.Given as goal

abbrev pub invariant-loop-a : goal.invariant-loop-a
invariant-loop-a l =
    (q b : ℕ) → b < l.size.nodes → member l.table l.size.words q b
    ≡ ((eqb q l.s.0 && (ltb b l.a && leb l.least.0 (get_or l.values (l.s.0 * l.size.nodes + b) 0))) || member l.initial.table l.size.words q b)
