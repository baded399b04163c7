-- Links to add over bytes: the answer's selection makes the target sure, none with fewer edges does and none smaller with as many, and what is
-- refused. Document 02, point 10. Assumes nothing.
use Prim.Native.Nat.{ℕ, ◌+◌, ◌≤◌, ◌<◌}
use native.Mathlib.Omega.{arith}
use mathlib.Core.Path.{◌≡◌, refl, sym, ap, subst, ◌∙◌}
use mathlib.Core.Logic.{⊎_elim, ◌↔◌}
use mathlib.Core.Bool.{Bool, true, false, false≢true}
use mathlib.Core.List.{List, []}
use lib.ListN.{length, get_or}
use lib.Dec.{ltb}
use borrow.Author.Tests.{lt-ltb, le-ltb, ne_eqb}
use Rattle.fixpoint.specs.Lists.{from, up_to, keep}
use Rattle.fixpoint.proofs.Lists.{by_test, lt_cases}
use Rattle.cases.specs.Faults.{Refusal, no_refusal}
use Rattle.cases.specs.Case.{Case}
use Rattle.cases.specs.Reading.{outcome, is_reading_number}
use Rattle.cases.specs.Sound.{Sound}
use Rattle.encoding.proofs.RefusalNumbers.{reading_number}
use Rattle.semantics.specs.Adding.{candidate_at, candidate_count, chooses, chosen, chosen_count, with_links, verdict_with, selection_count, key_selection, key_count, fewest_key}
use Rattle.semantics.specs.Adding.{list_fits, candidate_known, fewest_fault, fewest_refusal, fewest, fewest_answer}
use Rattle.semantics.specs.Operations.{or_else, first_of, refuse_unless, counted, case_of}
use Rattle.semantics.specs.Parking.{with_edges}
use Rattle.semantics.specs.Paths.{linked}
use Rattle.semantics.specs.Solving.{verdicts}
use Rattle.semantics.proofs.Adding.{sound_with, chosen_known, chosen_counts, no_links, key_below, LeastSure, fewest_key_before, fewest_key_least}
use Rattle.semantics.proofs.Refusing.{zero_cases, or_else_next, or_else_this, unless_none, unless_well, unless_ill, unless_place, first_none, first_refuses, counted_unrefused}
use Rattle.semantics.proofs.Solved.{valid_exactly}
use Rattle.theorems.specs.Adding.{linked_case, SureWith, SomeSure, WellAsked, FirstUnknown}
use Rattle.theorems.specs.Demands.{Reads}
use Rattle.theorems.proofs.Demands.{case_sound, target_below, verdict_is_value}

-- ---- Sure: the verdict of the case with the chosen edges, in the words of demand 3

module _ {s : List ℕ} {target : ℕ} {list : List ℕ} (asked : WellAsked s target list) (selection : ℕ) where
  linked_sound : Sound (linked_case s list selection)
  linked_sound = sound_with (chosen list selection) (case_sound s) (chosen_known (case_of s) list selection asked.candidates_known)

  pub sure_with_exactly : (verdict_with (case_of s) target list selection ≡ 2) ↔ SureWith s target list selection
  unfolding verdict_with with_links with_edges
  sure_with_exactly =
      let c = linked_case s list selection in
      rw (verdict_is_value c target asked.target_known) (valid_exactly c _ (target_below c linked_sound target asked.target_known))

-- ---- What is refused, and what then is known: each refusal with the tests that led to it

data Ruling (s : List ℕ) (target : ℕ) (list : List ℕ) : Refusal → Type 0 where
  unread : (Reads s → ⊥) → Ruling s target list (outcome s).refusal
  unfit : Reads s → list_fits list ≡ false → Ruling s target list (record { number = 23; place = length list })
  no_target : Reads s → list_fits list ≡ true → (target < length (case_of s).targets → ⊥) → Ruling s target list (record { number = 24; place = 0 })
  no_node : Reads s → list_fits list ≡ true → target < length (case_of s).targets → (k : ℕ) → FirstUnknown s list k
      → Ruling s target list (record { number = 24; place = k + 1 })
  nothing_sure : WellAsked s target list → key_count list ≤ fewest_key (case_of s) target list → Ruling s target list (record { number = 25; place = 0 })
  found : WellAsked s target list → fewest_key (case_of s) target list < key_count list → Ruling s target list no_refusal

passed : {ok : Bool} (n place : ℕ) (q : Refusal) → ok ≡ true → or_else (refuse_unless ok n place) q ≡ q
unfolding or_else refuse_unless
passed n place q e = rw e refl

stopped : {ok : Bool} (n place : ℕ) (q : Refusal) → 0 < n → ok ≡ false → or_else (refuse_unless ok n place) q ≡ record { number = n; place = place }
stopped {ok} n place q pos e =
    or_else_this (refuse_unless ok n place) q (λ z. false≢true (sym e ∙ (unless_none ok n place pos).0 z)) ∙ sym (unless_ill e)

module _ (s : List ℕ) (target : ℕ) (list : List ℕ) where
  -- the refusal of one candidate
  abbrev unknown_at : ℕ → Refusal
  unknown_at i = refuse_unless (candidate_known (case_of s) (candidate_at list i)) 24 (i + 1)

  abbrev candidate_refusal : Refusal
  candidate_refusal = first_of (up_to (candidate_count list)) unknown_at

  abbrev sure_refusal : Refusal
  sure_refusal = refuse_unless (ltb (fewest_key (case_of s) target list) (key_count list)) 25 0

  ruled_last : WellAsked s target list → Ruling s target list sure_refusal
  ruled_last asked =
      let key = fewest_key (case_of s) target list in
      ⊎_elim
      (λ h. subst (Ruling s target list) (unless_well 25 0 (lt-ltb key (key_count list) h)) (found asked h))
      (λ h. subst (Ruling s target list) (unless_ill (le-ltb key (key_count list) h)) (nothing_sure asked h))
      (lt_cases key (key_count list))

  ruled_candidates : Reads s → list_fits list ≡ true → target < length (case_of s).targets → Ruling s target list (or_else candidate_refusal sure_refusal)
  ruled_candidates reads fits known =
      let known_at : (i : ℕ) → ((unknown_at i).number ≡ 0) ↔ (candidate_known (case_of s) (candidate_at list i) ≡ true) = λ i. unless_none _ 24 (i + 1) (omega arith) in
      ⊎_elim
      (λ z. rw (or_else_next candidate_refusal sure_refusal z)
      (ruled_last (record {
        reads = reads;
        list_fits_holds = fits;
        target_known = known;
        candidates_known = (first_none (candidate_count list) unknown_at (λ i h. known_at i)).0 z;
      })))
      (λ n.
      let r = first_refuses (candidate_count list) unknown_at n in
      let p = unless_place (candidate_known (case_of s) (candidate_at list r.k)) 24 (r.k + 1) r.refuses in
      rw (or_else_this candidate_refusal sure_refusal n, r.is, ← unless_ill {n = 24} {place = r.k + 1} p.0)
      (no_node reads fits known r.k (record {
        in_list = r.below;
        unknown = p.0;
        earlier = λ i h. (known_at i).0 (r.earlier i (omega arith) h);
      })))
      (zero_cases candidate_refusal.number)

  ruled_target : Reads s → list_fits list ≡ true
      → Ruling s target list (or_else (refuse_unless (ltb target (length (case_of s).targets)) 24 0) (or_else candidate_refusal sure_refusal))
  ruled_target reads fits =
      let n = length (case_of s).targets in
      ⊎_elim
      (λ h. rw (passed 24 0 (or_else candidate_refusal sure_refusal) (lt-ltb target n h)) (ruled_candidates reads fits h))
      (λ h. rw (stopped 24 0 (or_else candidate_refusal sure_refusal) (omega arith) (le-ltb target n h)) (no_target reads fits (λ l. omega arith)))
      (lt_cases target n)

  ruled : Ruling s target list (fewest_refusal s target list)
  unfolding fewest_refusal fewest_fault
  ruled =
      ⊎_elim
      (λ reads. rw (or_else_next (outcome s).refusal (fewest_fault (case_of s) target list) reads)
      (by_test (list_fits list)
      (λ h. rw (passed 23 (length list) _ h) (ruled_target reads h))
      (λ h. rw (stopped 23 (length list) _ (omega arith) h) (unfit reads h))))
      (λ n. rw (or_else_this (outcome s).refusal (fewest_fault (case_of s) target list) n) (unread n))
      (zero_cases (outcome s).refusal.number)

-- 23, 24 and 25 are none of reading's
not_reading : (s : List ℕ) (n : ℕ) → is_reading_number n ≡ false → (outcome s).refusal.number ≡ n → ⊥
not_reading s n h e = false≢true (sym h ∙ rw e at (reading_number s))

both_ways : {A : Type 0} {b : Bool} → b ≡ true → b ≡ false → A
both_ways t f = absurd (false≢true (sym f ∙ t))

-- there is one first
first_once : {s list : List ℕ} {k j : ℕ} → FirstUnknown s list k → FirstUnknown s list j → k ≡ j
first_once {k = k} {j = j} u v =
    ⊎_elim
    (λ l. both_ways (v.earlier k l) u.unknown)
    (λ l. ⊎_elim (λ m. both_ways (u.earlier j m) v.unknown) (λ m. omega arith) (lt_cases j k))
    (lt_cases k j)

-- so each number, with its place, tells which test failed
module _ {s : List ℕ} {target : ℕ} {list : List ℕ} where
  ruled_0 : {r : Refusal} → Ruling s target list r → (r.number ≡ 0) ↔ (WellAsked s target list × (fewest_key (case_of s) target list < key_count list))
  ruled_0 (unread n) = (λ e. absurd (n e), λ h. absurd (n h.0.reads))
  ruled_0 (unfit reads f) = (λ e. absurd (omega arith), λ h. both_ways h.0.list_fits_holds f)
  ruled_0 (no_target reads t n) = (λ e. absurd (omega arith), λ h. absurd (n h.0.target_known))
  ruled_0 (no_node reads t l k u) = (λ e. absurd (omega arith), λ h. both_ways (h.0.candidates_known k u.in_list) u.unknown)
  ruled_0 (nothing_sure asked l) = (λ e. absurd (omega arith), λ h. absurd (omega arith))
  ruled_0 (found asked l) = (λ e. (asked, l), λ h. refl)

  ruled_23 : {r : Refusal} → Ruling s target list r → Reads s → (r.number ≡ 23) ↔ (list_fits list ≡ false)
  ruled_23 (unread n) reads = absurd (n reads)
  ruled_23 (unfit _ f) reads = (λ e. f, λ h. refl)
  ruled_23 (no_target _ t n) reads = (λ e. absurd (omega arith), λ h. both_ways t h)
  ruled_23 (no_node _ t l k u) reads = (λ e. absurd (omega arith), λ h. both_ways t h)
  ruled_23 (nothing_sure asked l) reads = (λ e. absurd (omega arith), λ h. both_ways asked.list_fits_holds h)
  ruled_23 (found asked l) reads = (λ e. absurd (omega arith), λ h. both_ways asked.list_fits_holds h)

  place_23 : {r : Refusal} → Ruling s target list r → r.number ≡ 23 → r.place ≡ length list
  place_23 (unread n) e = absurd (not_reading s 23 refl e)
  place_23 (unfit reads f) e = refl
  place_23 (no_target reads t n) e = absurd (omega arith)
  place_23 (no_node reads t l k u) e = absurd (omega arith)
  place_23 (nothing_sure asked l) e = absurd (omega arith)
  place_23 (found asked l) e = absurd (omega arith)

  ruled_24_target : {r : Refusal} → Ruling s target list r → Reads s → list_fits list ≡ true
      → ((r.number ≡ 24) × (r.place ≡ 0)) ↔ (target < length (case_of s).targets → ⊥)
  ruled_24_target (unread n) reads fits = absurd (n reads)
  ruled_24_target (unfit _ f) reads fits = both_ways fits f
  ruled_24_target (no_target _ t n) reads fits = (λ e. n, λ h. (refl, refl))
  ruled_24_target (no_node _ t l k u) reads fits = (λ e. absurd (omega (arith, e.1)), λ h. absurd (h l))
  ruled_24_target (nothing_sure asked l) reads fits = (λ e. absurd (omega (arith, e.0)), λ h. absurd (h asked.target_known))
  ruled_24_target (found asked l) reads fits = (λ e. absurd (omega (arith, e.0)), λ h. absurd (h asked.target_known))

  ruled_24_candidate : {r : Refusal} → Ruling s target list r → Reads s → list_fits list ≡ true → target < length (case_of s).targets → (k : ℕ)
      → ((r.number ≡ 24) × (r.place ≡ k + 1)) ↔ FirstUnknown s list k
  ruled_24_candidate (unread n) reads fits known k = absurd (n reads)
  ruled_24_candidate (unfit _ f) reads fits known k = both_ways fits f
  ruled_24_candidate (no_target _ t n) reads fits known k = absurd (n known)
  ruled_24_candidate (no_node _ t l j u) reads fits known k =
      (λ e. let q : j ≡ k = omega (arith, e.1) in rw (← q) u, λ v. (refl, ap (λ (i : ℕ). i + 1) (first_once u v)))
  ruled_24_candidate (nothing_sure asked l) reads fits known k =
      (λ e. absurd (omega (arith, e.0)), λ v. both_ways (asked.candidates_known k v.in_list) v.unknown)
  ruled_24_candidate (found asked l) reads fits known k =
      (λ e. absurd (omega (arith, e.0)), λ v. both_ways (asked.candidates_known k v.in_list) v.unknown)

  ruled_25 : {r : Refusal} → Ruling s target list r → WellAsked s target list → (r.number ≡ 25) ↔ (key_count list ≤ fewest_key (case_of s) target list)
  ruled_25 (unread n) asked = absurd (n asked.reads)
  ruled_25 (unfit reads f) asked = both_ways asked.list_fits_holds f
  ruled_25 (no_target reads t n) asked = absurd (n asked.target_known)
  ruled_25 (no_node reads t l k u) asked = both_ways (asked.candidates_known k u.in_list) u.unknown
  ruled_25 (nothing_sure _ l) asked = (λ e. l, λ h. refl)
  ruled_25 (found _ l) asked = (λ e. absurd (omega arith), λ h. absurd (omega arith))

  place_25 : {r : Refusal} → Ruling s target list r → r.number ≡ 25 → r.place ≡ 0
  place_25 (unread n) e = absurd (not_reading s 25 refl e)
  place_25 (unfit reads f) e = absurd (omega arith)
  place_25 (no_target reads t n) e = absurd (omega arith)
  place_25 (no_node reads t l k u) e = absurd (omega arith)
  place_25 (nothing_sure asked l) e = refl
  place_25 (found asked l) e = absurd (omega arith)

-- ---- The first key, in the words of the point

module _ (s : List ℕ) (target : ℕ) (list : List ℕ) where
  -- a key is found exactly where some selection makes the target sure
  key_found : WellAsked s target list → (fewest_key (case_of s) target list < key_count list) ↔ SomeSure s target list
  key_found asked = (
    λ h. let least = fewest_key_least (case_of s) target list h in
        record { selection = _; of_list = least.of_list; sure = (sure_with_exactly asked _).0 least.sure },
    λ q. let v = (sure_with_exactly asked q.selection).1 q.sure in
        omega (arith, fewest_key_before (case_of s) target list q.selection q.of_list v, key_below list q.selection q.of_list),
  )

  pub fewest_given_exactly : ((fewest_answer s target list).number ≡ 0) ↔ (WellAsked s target list × SomeSure s target list)
  unfolding fewest_answer fewest
  fewest_given_exactly =
      let r = ruled_0 (ruled s target list) in (
        λ e. let p = r.0 e in (p.0, (key_found p.0).0 p.1),
        λ p. r.1 (p.0, (key_found p.0).1 p.1),
      )

  -- "25 no selection makes the target sure, place 0"
  pub none_exactly : WellAsked s target list
      → ((fewest_answer s target list).number ≡ 25) ↔ ((selection : ℕ) → selection < selection_count list → SureWith s target list selection → ⊥)
  unfolding fewest_answer fewest
  none_exactly asked =
      let r = ruled_25 (ruled s target list) asked in (
        λ e selection l sure. omega (arith, r.0 e, (key_found asked).1 (record { selection = selection; of_list = l; sure = sure })),
        λ none. r.1 (⊎_elim
            (λ h. let q = (key_found asked).0 h in absurd (none q.selection q.of_list q.sure))
            (λ h. h)
            (lt_cases (fewest_key (case_of s) target list) (key_count list))),
      )

  pub none_place : (fewest_answer s target list).number ≡ 25 → (fewest_answer s target list).place ≡ 0
  unfolding fewest_answer fewest
  none_place e = place_25 (ruled s target list) e

  -- "a refusal's selection is 0"
  pub refused_selects_nothing : ((fewest_answer s target list).number ≡ 0 → ⊥) → (fewest_answer s target list).selection ≡ 0
  unfolding fewest_answer fewest counted
  refused_selects_nothing n = rw (ne_eqb (fewest_refusal s target list).number 0 n)

  -- ---- Reading's, 23 and 24

  pub reading_refuses_first : (Reads s → ⊥)
      → ((fewest_answer s target list).number ≡ (outcome s).refusal.number) × ((fewest_answer s target list).place ≡ (outcome s).refusal.place)
  unfolding fewest_answer fewest fewest_refusal
  reading_refuses_first n = rw (or_else_this (outcome s).refusal (fewest_fault (case_of s) target list) n) (refl, refl)

  pub unfit_list_exactly : Reads s → ((fewest_answer s target list).number ≡ 23) ↔ (list_fits list ≡ false)
  unfolding fewest_answer fewest
  unfit_list_exactly reads = ruled_23 (ruled s target list) reads

  pub unfit_list_place : (fewest_answer s target list).number ≡ 23 → (fewest_answer s target list).place ≡ length list
  unfolding fewest_answer fewest
  unfit_list_place e = place_23 (ruled s target list) e

  pub unknown_target_exactly : Reads s → list_fits list ≡ true
      → (((fewest_answer s target list).number ≡ 24) × ((fewest_answer s target list).place ≡ 0)) ↔ (target < length (case_of s).targets → ⊥)
  unfolding fewest_answer fewest
  unknown_target_exactly reads fits = ruled_24_target (ruled s target list) reads fits

  -- "the first such candidate's position from 1"
  pub unknown_candidate_exactly : Reads s → list_fits list ≡ true → target < length (case_of s).targets → (k : ℕ)
      → (((fewest_answer s target list).number ≡ 24) × ((fewest_answer s target list).place ≡ k + 1)) ↔ FirstUnknown s list k
  unfolding fewest_answer fewest
  unknown_candidate_exactly reads fits known k = ruled_24_candidate (ruled s target list) reads fits known k

  -- ---- "the fewest to add so that the target is sure; among equals, the selection whose bit number is smallest"

  module _ (given : (fewest_answer s target list).number ≡ 0) where
    answered : WellAsked s target list
    answered = (fewest_given_exactly.0 given).0

    -- The order of keys is the order by size, then by number: so the first key's selection is the least in that order.
    least : LeastSure (case_of s) target list (fewest_answer s target list).selection
    unfolding fewest_answer fewest
    least =
        rw (counted_unrefused (fewest_refusal s target list) (key_selection list (fewest_key (case_of s) target list)) given)
        (fewest_key_least (case_of s) target list ((ruled_0 (ruled s target list)).0 given).1)

    pub found_is_of_list : (fewest_answer s target list).selection < selection_count list
    found_is_of_list = least.of_list

    pub found_is_sure : SureWith s target list (fewest_answer s target list).selection
    found_is_sure = (sure_with_exactly answered _).0 least.sure

    -- "Every other selection that makes it sure has at least as many edges."
    pub found_is_fewest : (other : ℕ) → other < selection_count list → SureWith s target list other
        → chosen_count list (fewest_answer s target list).selection ≤ chosen_count list other
    found_is_fewest other l sure = least.fewest other l ((sure_with_exactly answered other).1 sure)

    pub found_is_smallest : (other : ℕ) → other < selection_count list → SureWith s target list other
        → chosen_count list other ≡ chosen_count list (fewest_answer s target list).selection → (fewest_answer s target list).selection ≤ other
    found_is_smallest other l sure e = least.smallest other l ((sure_with_exactly answered other).1 sure) e

-- ---- Candidates

-- how many edges a selection has is seen from the length of the list: candidates with equal bytes are separate
pub equal_candidates_are_separate : (list other : List ℕ) (selection : ℕ) → length list ≡ length other → chosen_count list selection ≡ chosen_count other selection
unfolding chosen_count
equal_candidates_are_separate list other selection e = rw e

-- an empty list has one selection, and with it the case is the case itself
pub empty_list_has_one : selection_count [] ≡ 1
empty_list_has_one = refl

empty_verdict : (c : Case) (target selection : ℕ) → verdict_with c target [] selection ≡ get_or (verdicts c) target 0
unfolding verdict_with chosen up_to from keep
empty_verdict c target selection = ap (λ (d : Case). get_or (verdicts d) target 0) (no_links c)

pub empty_list : (s : List ℕ) (target : ℕ) → Reads s → target < length (case_of s).targets
    → ((fewest_answer s target []).number ≡ 0) ↔ (get_or (verdicts (case_of s)) target 0 ≡ 2)
empty_list s target reads known =
    let asked : WellAsked s target [] = record { reads = reads; list_fits_holds = refl; target_known = known; candidates_known = λ i h. absurd (omega arith) } in
    let sure : (selection : ℕ) → (get_or (verdicts (case_of s)) target 0 ≡ 2) ↔ SureWith s target [] selection =
    λ selection. rw (empty_verdict (case_of s) target selection) at (sure_with_exactly asked selection) in (
      λ e. (sure (fewest_answer s target []).selection).1 (found_is_sure s target [] e),
      λ v. (fewest_given_exactly s target []).1 (asked, record { selection = 0; of_list = omega arith; sure = (sure 0).0 v }),
    )

-- "a chosen one counts even if that edge is parked"
pub parked_counts : (s list : List ℕ) (selection i : ℕ) → i < candidate_count list → chooses selection i ≡ true
    → linked (linked_case s list selection) (candidate_at list i).property.0 (candidate_at list i).subject.0 (candidate_at list i).object.0 ≡ true
parked_counts s list selection i h e = chosen_counts (case_of s) list selection i h e
