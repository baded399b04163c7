-- `bitset::rows::subset_words` meets its contract. The invariant: each of the first i words is in its word of the other row. Assumes nothing.
use Prim.Native.Nat.{◌+◌, ◌*◌}
use mathlib.Core.Path.{◌≡◌}
use lib.Bits.{bit_and}
use lib.ListN.{get_or}
use Rattle.bitset.proofs.Members.{Passed}
use Rattle.bitset.proofs.rows.subset_words.Given as goal

abbrev pub invariant-loop-i : goal.invariant-loop-i
invariant-loop-i l =
    Passed (λ k. bit_and (get_or l.t (l.r * l.w + k) 0) (get_or l.u (l.s * l.w + k) 0) ≡ get_or l.t (l.r * l.w + k) 0) l.w l.i
