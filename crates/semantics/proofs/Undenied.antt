-- Demand 3, the undenied case: where no shape depends on its own denial, every stable assignment is the solved one. Assumes nothing.
use Prim.Native.Nat.{ℕ, zero, suc, ◌<◌}
use native.Mathlib.Omega.{arith}
use mathlib.Core.Path.{◌≡◌, sym, ◌∙◌}
use mathlib.Core.Logic.{⊎_elim}
use mathlib.Core.Bool.{true, false≢true}
use mathlib.Core.List.{List}
use lib.ListN.{get_or}
use borrow.Author.Tests.{eqb-true, le-leb}
use Rattle.fixpoint.specs.Sets.{has}
use Rattle.fixpoint.specs.Stages.{stage, least, closure}
use Rattle.fixpoint.proofs.Lists.{lt_cases}
use Rattle.fixpoint.proofs.Sets.{has_none}
use Rattle.fixpoint.proofs.Alternating.{closure_fixed}
use Rattle.cases.specs.Case.{Case}
use Rattle.cases.specs.Sound.{Sound}
use Rattle.semantics.specs.Values.{pair_count, shape_of}
use Rattle.semantics.specs.Stability.{next_set, valid_set, possible_set, StableAssignment}
use Rattle.semantics.specs.Solving.{solved_values}
use Rattle.semantics.specs.Denial.{stratum, Undenied}
use Rattle.semantics.proofs.Pairs.{shape_below}
use Rattle.semantics.proofs.Kernel.{rule_system}
use Rattle.semantics.proofs.Denial.{stratum_falls}
use Rattle.semantics.proofs.Levels.{step_grows, next_in, next_of}
use Rattle.semantics.proofs.Solved.{solved_stable, has_valid, has_possible, valid_exactly, violated_exactly}

-- A stable assignment has no undetermined pair, by induction on strata and within a stratum on the stages of P = C(T): references have no
-- larger stratum, and denied ones a smaller one, where T and P agree already. So the rule holds with T and P too, and the pair is in T.
module _ (c : Case) (sound : Sound c) (u : Undenied c) (v : List ℕ) (st : StableAssignment c v) where
  next_valid : next_set c (possible_set c v) (valid_set c v) ≡ valid_set c v
  next_valid = rw st.closed.lower_closed (closure_fixed (pair_count c) (next_set c) (rule_system c) (possible_set c v))

  stage_valid : (r : ℕ) → ((j : ℕ) → stratum c (shape_of c j) < r → has (possible_set c v) j ≡ true → has (valid_set c v) j ≡ true) → (n k : ℕ)
      → stratum c (shape_of c k) < suc r → has (stage (pair_count c) (next_set c (valid_set c v)) n) k ≡ true → has (valid_set c v) k ≡ true
  unfolding stage
  stage_valid r lower zero k b e = absurd (false≢true (sym (has_none (pair_count c) k) ∙ e))
  stage_valid r lower (suc n) k b e =
      let before = stage (pair_count c) (next_set c (valid_set c v)) n in
      let p = next_in c (valid_set c v) before k e in
      let shape = shape_below c k p.0 in
      rw next_valid at
      (next_of c (possible_set c v) (valid_set c v) k p.0
      (step_grows c sound k p.0 (has before) (has (valid_set c v)) (has (valid_set c v)) (has (possible_set c v))
      (λ j h s z. stage_valid r lower n j (omega (arith, stratum_falls c sound u (shape_of c k) (shape_of c j) shape s)))
      (λ j h s z. lower j (omega (arith, stratum_falls c sound u (shape_of c k) (shape_of c j) shape s)))
      p.1))

  possible_valid : (r k : ℕ) → stratum c (shape_of c k) < r → has (possible_set c v) k ≡ true → has (valid_set c v) k ≡ true
  unfolding closure least
  possible_valid zero k b e = absurd (omega arith)
  possible_valid (suc r) k b e = stage_valid r (possible_valid r) (pair_count c) k b (rw st.closed.upper_closed at e)

  possible_two : (k : ℕ) → k < pair_count c → 0 < get_or v k 0 → get_or v k 0 ≡ 2
  possible_two k h p =
      eqb-true (get_or v k 0) 2
      (sym (has_valid c v k h) ∙ possible_valid (suc (stratum c (shape_of c k))) k (omega arith) (has_possible c v k h ∙ le-leb 1 (get_or v k 0) p))

pub only_solved : (c : Case) → Sound c → Undenied c → (v : List ℕ) → StableAssignment c v → (k : ℕ) → k < pair_count c → get_or v k 0 ≡ get_or (solved_values c) k 0
only_solved c sound u v st k h =
    let s = solved_values c in
    ⊎_elim
    (λ p. let two = possible_two c sound u s (solved_stable c) k h p in ((valid_exactly c k h).0 two).agrees v st ∙ sym two)
    (λ p. let none : get_or s k 0 ≡ 0 = omega arith in ((violated_exactly c k h).0 none).agrees v st ∙ sym none)
    (lt_cases 0 (get_or s k 0))
