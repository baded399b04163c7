-- `bitset::rows::same_words` meets its contract. The invariant: the first i words are the same. Assumes nothing.
use Prim.Native.Nat.{◌+◌, ◌*◌}
use mathlib.Core.Path.{◌≡◌}
use lib.ListN.{get_or}
use Rattle.bitset.proofs.Members.{Passed}
use Rattle.bitset.proofs.rows.same_words.Given as goal

abbrev pub invariant-loop-i : goal.invariant-loop-i
invariant-loop-i l = Passed (λ k. get_or l.t (l.r * l.w + k) 0 ≡ get_or l.t (l.s * l.w + k) 0) l.w l.i
