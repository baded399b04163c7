-- `pairs::thresholds::fill` meets its contract. The invariant: the rows of the shapes below s are done, the others are empty. Assumes nothing.
use Prim.Native.Nat.{ℕ, ◌+◌, ◌*◌, ◌<◌}
use mathlib.Core.Path.{◌≡◌}
use mathlib.Core.Bool.{◌&&◌}
use lib.ListN.{get_or}
use lib.Dec.{leb, ltb}
use Rattle.bitset.specs.Words.{member}
use Rattle.cases.specs.Counts.{words_of}
use Rattle.pairs.proofs.thresholds.fill.Given as goal

abbrev pub invariant-loop-s : goal.invariant-loop-s
invariant-loop-s l =
    (q a : ℕ) → a < l.counts.nodes → member l.table (words_of l.counts) q a ≡ (ltb q l.s && leb l.least.0 (get_or l.values (q * l.counts.nodes + a) 0))
