-- Refusal 9 read off the table of noted shapes. Assumes nothing.
use Prim.Native.Nat.{ℕ, ◌+◌, ◌*◌, ◌≤◌, ◌<◌}
use native.Mathlib.Numerals.{add-one}
use native.Mathlib.Omega.{arith}
use mathlib.Core.Path.{◌≡◌, ap, ◌∙◌}
use mathlib.Core.List.{List, ◌∷◌}
use lib.ListN.{length, get_or, drop, drop_of_length-le}
use lib.Seq.{drop-cons}
use borrow.Author.Tests.{lt-ltb, le-ltb}
use Rattle.fixpoint.proofs.Lists.{length_made, get_d_made}
use Rattle.cases.specs.Faults.{no_refusal}
use Rattle.cases.specs.Reading.{Note, unknown_shape}
use Rattle.parts.specs.Tables.{named_in}

-- from the i-th noted shape on
entry : List ℕ → ℕ → Note
entry t i = record { shape = get_or t (2 * i) 0; place = get_or t (2 * i + 1) 0 }

module _ (t : List ℕ) (n : ℕ) where
  pub length_named : length (named_in t n) ≡ n
  unfolding named_in
  length_named = length_made _ n

  named_drop : (i : ℕ) → i < n → drop i (named_in t n) ≡ entry t i ∷ drop (i + 1) (named_in t n)
  unfolding named_in entry
  named_drop i h =
      drop-cons (named_in t n) i (entry t 0) (omega (arith, length_named)) ∙ rw (get_d_made (entry t) n i (entry t 0) h, add-one i)

module _ (t : List ℕ) (n shapes i : ℕ) where
  pub unknown_here : i < n → shapes ≤ get_or t (2 * i) 0 → unknown_shape shapes (drop i (named_in t n)) ≡ record { number = 9; place = get_or t (2 * i + 1) 0 }
  unfolding unknown_shape entry
  unknown_here h e = ap (unknown_shape shapes) (named_drop t n i h) ∙ rw (le-ltb (get_or t (2 * i) 0) shapes e)

  pub unknown_later : i < n → get_or t (2 * i) 0 < shapes → unknown_shape shapes (drop i (named_in t n)) ≡ unknown_shape shapes (drop (i + 1) (named_in t n))
  unfolding unknown_shape entry
  unknown_later h e = ap (unknown_shape shapes) (named_drop t n i h) ∙ rw (lt-ltb (get_or t (2 * i) 0) shapes e)

  pub unknown_none : n ≤ i → unknown_shape shapes (drop i (named_in t n)) ≡ no_refusal
  unfolding unknown_shape
  unknown_none h = ap (unknown_shape shapes) (drop_of_length-le (named_in t n) {i = i} (omega (arith, length_named t n)))
