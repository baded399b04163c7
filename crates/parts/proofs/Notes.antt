-- Shapes noted in a table. Assumes nothing.
use Prim.Native.Nat.{ℕ, ◌+◌, ◌*◌, ◌≤◌}
use native.Mathlib.Omega.{arith}
use mathlib.Core.Path.{refl, sym, ◌∙◌}
use mathlib.Core.Logic.{inl}
use mathlib.Core.List.{List, [], ◌∷◌, append_assoc, append-nil}
use lib.ListN.{length}
use Rattle.fixpoint.proofs.Lists.{made_more}
use Rattle.cases.specs.Reading.{named_at}
use Rattle.parts.specs.Tables.{named_in, Noted}
use Rattle.cases.proofs.PutRows.{two, length_two, two_other, two_first, two_second}

-- What noting no shape, one, and two leaves
pub noted_none : {place n : ℕ} {t : List ℕ} → Noted [] place n t n t
unfolding named_at
noted_none {n = n} {t = t} = record { counted = omega arith; noted = sym (append-nil (named_in t n)); long = refl }

pub noted_one : {place n shape : ℕ} {t : List ℕ} → 2 * n + 2 ≤ length t → Noted (shape ∷ []) place n t (n + 1) (two t (2 * n) shape place)
unfolding named_in named_at
noted_one {place} {n} {shape} {t} fits = record {
  counted = refl;
  noted =
      made_more _ _ n _
      (λ i h. rw (two_other t (2 * n) shape place (2 * i) (inl (omega arith)), two_other t (2 * n) shape place (2 * i + 1) (inl (omega arith))))
      (rw (two_first t (2 * n) shape place fits, two_second t (2 * n) shape place fits));
  long = length_two t (2 * n) shape place;
}

pub noted_then : {place n n₁ n₂ a b : ℕ} {t t₁ t₂ : List ℕ} → Noted (a ∷ []) place n t n₁ t₁ → Noted (b ∷ []) place n₁ t₁ n₂ t₂
    → Noted (a ∷ b ∷ []) place n t n₂ t₂
unfolding named_at
noted_then {n = n} {t = t} u v = record {
  counted = omega (arith, u.counted, v.counted);
  noted = v.noted ∙ rw u.noted (append_assoc (named_in t n) _ _);
  long = v.long ∙ u.long;
}
