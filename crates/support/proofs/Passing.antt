-- One pass over the pairs, shape by shape: the first refusal of a shape's pairs, and of all. Assumes nothing.
use Prim.Native.Nat.{ℕ, ◌+◌, ◌*◌, ◌≤◌, ◌<◌}
use native.Mathlib.Nat.{mul-le-mul_right}
use native.Mathlib.Omega.{arith}
use Rattle.std.specs.Prelude.{Result, Err}
use Rattle.std.specs.Result.{IsErrAnd}
use Rattle.std.proofs.lemmas.Result.{err_from_is_err_and}
use mathlib.Core.Path.{◌≡◌, ap, ◌∙◌}
use mathlib.Core.Logic.{⊎_elim}
use Rattle.fixpoint.specs.Lists.{up_to}
use Rattle.fixpoint.proofs.Lists.{lt_cases}
use Rattle.cases.specs.Refusals.{refusal_says, refusal_in}
use Rattle.cases.specs.declared.refusals.Refused.{Refused}
use Rattle.semantics.specs.Operations.{first_of}
use Rattle.semantics.proofs.Refusing.{well_first, well_all}
use Rattle.support.specs.Proposals.{FirstIn}
use Rattle.cases.specs.Faults.{Refusal, no_refusal}

-- and is passed on
pub refused_on : {A : Type 0} (e : Refused) (r : Result A Refused) → IsErrAnd r (λ x. x ≡ e) → refusal_in r ≡ refusal_says e
refused_on e r h = let p = err_from_is_err_and r h in ap refusal_in (p.1 ∙ ap Err p.2)

-- ---- From a number on nothing is refused below k, and then there is a refusal, or the end

pub record WellFrom (f : ℕ → Refusal) (from k : ℕ) : Type 0 where
  pub each : (j : ℕ) → from ≤ j → j < k → (f j).number ≡ 0

module _ {f : ℕ → Refusal} {from : ℕ} where
  pub well_start : {k : ℕ} → k ≤ from → WellFrom f from k
  well_start h = record { each = λ j l m. absurd (omega arith) }

  module _ {k : ℕ} where
    pub well_next : {r : Refusal} → r ≡ f k → r.number ≡ 0 → WellFrom f from k → WellFrom f from (k + 1)
    well_next e z v = record {
      each = λ j l m. ⊎_elim (λ b. v.each j l b) (λ b. let q : j ≡ k = omega arith in rw (q, ← e) z) (lt_cases j k);
    }

    module _ {end pairs : ℕ} {r : Refusal} where
      pub first_found : r ≡ f k → (r.number ≡ 0 → ⊥) → from ≤ k → k < end → k < pairs → WellFrom f from k → FirstIn f from end pairs r
      first_found e n h l m v = record { none = λ z. absurd (n z); first = λ o. (k, h, l, m, e, v.each) }

      pub first_none_found : r ≡ no_refusal → ((j : ℕ) → j < end → j < pairs → j < k) → WellFrom f from k → FirstIn f from end pairs r
      first_none_found e h v = record {
        none = λ z j l m o. v.each j l (h j m o);
        first = λ n. absurd (n (ap (λ (r : Refusal). r.number) e));
      }

-- ---- The pairs of the shapes below s, n of each, are well as far as they are below `pairs`

pub record RowsWell (f : ℕ → Refusal) (n shapes pairs s : ℕ) : Type 0 where
  pub most : s ≤ shapes
  pub each : (k : ℕ) → k < s * n → k < pairs → (f k).number ≡ 0

next_row : (s n : ℕ) → (s + 1) * n ≡ s * n + n
next_row s n = omega arith

module _ {f : ℕ → Refusal} {n shapes pairs : ℕ} where
  pub rows_well_none : RowsWell f n shapes pairs 0
  rows_well_none = record { most = omega arith; each = λ k h l. absurd (omega arith) }

  module _ {s : ℕ} where
    module _ {r : Refusal} where
      pub rows_well_more : s < shapes → FirstIn f (s * n) (s * n + n) pairs r → r.number ≡ 0 → RowsWell f n shapes pairs s → RowsWell f n shapes pairs (s + 1)
      rows_well_more h g z v = record {
        most = omega arith;
        each = λ k l m. ⊎_elim (λ b. v.each k b m) (λ b. g.none z k b (omega (arith, next_row s n)) m) (lt_cases k (s * n));
      }

      pub rows_well_first : FirstIn f (s * n) (s * n + n) pairs r → (r.number ≡ 0 → ⊥) → RowsWell f n shapes pairs s → r ≡ first_of (up_to pairs) f
      rows_well_first g o v =
          let (k, h, l, m, e, w) = g.first o in
          well_first e m o (record { each = λ j b. ⊎_elim (λ d. v.each j d (omega arith)) (λ d. w j d b) (lt_cases j (s * n)) })

    pub rows_well_all : shapes ≤ s → pairs ≤ shapes * n → RowsWell f n shapes pairs s → no_refusal ≡ first_of (up_to pairs) f
    rows_well_all h l v =
        well_all (omega arith) (record { each = λ k b. v.each k (let m = mul-le-mul_right n h in omega arith) b })
