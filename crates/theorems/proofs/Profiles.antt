-- Profiles over bytes: a case keeps the limits of its profile, and beyond that the profile changes no answer. Document 02, point 8.
-- Assumes nothing.
use Prim.Native.Nat.{ℕ, zero, suc}
use mathlib.Core.Path.{◌≡◌, refl, sym, ap, ◌∙◌}
use mathlib.Core.Bool.{false}
use mathlib.Core.List.{List, ◌∷◌}
use lib.Dec.{eqb}
use Rattle.fixpoint.proofs.Lists.{by_test}
use Rattle.cases.specs.Case.{Case}
use Rattle.cases.specs.Reading.{headed, Outcome, outcome, reading}
use Rattle.encoding.specs.Encoding.{later}
use Rattle.encoding.proofs.Alike.{without_profile}
use Rattle.semantics.specs.Adding.{fewest_refusal, fewest_answer}
use Rattle.semantics.specs.OldCode.{old_refusal, old_answer}
use Rattle.semantics.specs.Operations.{case_of, solve_refusal, solve_answer, solve_values, solve_levels, solve_verdicts, check_refusal, check_answer, rank_refusal, rank_answer, rank_strata}
use Rattle.semantics.specs.Totals.{totals_refusal, totals_answer}
use Rattle.semantics.specs.Unfinished.{first_state_with, first_state, held_input, begun, held_case, after_round, advanced, advance_answer, certain_of, asked}
use Rattle.semantics.specs.Values.{pair_count}
use Rattle.semantics.specs.declared.ongoing.Unfinished.{Unfinished}
use Rattle.theorems.specs.Demands.{Reads}
use Rattle.theorems.specs.Profiles.{beginning, AnsweredAlike}
use Rattle.theorems.specs.Unfinished.{after, solving, held_by}
use Rattle.theorems.proofs.Unfinished.{copy_whole}

-- inputs that read as the same case are answered alike, whatever their profiles
case_alike : (s t : List ℕ) → outcome s ≡ outcome t → case_of s ≡ case_of t
unfolding case_of
case_alike s t e = ap (λ (o : Outcome). o.case) e

reading_alike : (s t : List ℕ) → outcome s ≡ outcome t → reading s ≡ reading t
unfolding reading
reading_alike s t e = rw e

fewest_alike : (s t : List ℕ) → outcome s ≡ outcome t → (target : ℕ) (list : List ℕ) → fewest_answer s target list ≡ fewest_answer t target list
unfolding fewest_refusal fewest_answer
fewest_alike s t e target list = rw (e, case_alike s t e)

-- "Beginning answers and refuses as reading does"
pub begins_as_read : (s : List ℕ) → beginning (begun s) ≡ reading s
unfolding begun reading
begins_as_read s = refl

-- unfinished solves: the cases that they hold are the same, and so is where they stand
record Standing (u v : Unfinished) : Type 0 where
  values : u.values ≡ v.values
  pairs : u.pairs ≡ v.pairs
  over : u.over ≡ v.over

round_alike : (c : Case) (u v : Unfinished) → Standing u v → Standing (after_round c u) (after_round c v)
unfolding after_round
round_alike c u v h = record { values = rw h.values; pairs = h.pairs; over = rw h.values }

advance_alike : (u v : Unfinished) → held_case u ≡ held_case v → Standing u v → Standing (advanced u) (advanced v)
unfolding advanced
advance_alike u v e h =
    let same = ap (λ (n : ℕ). eqb n 0) h.over in
    by_test (eqb v.over 0)
    (λ z. rw (same ∙ z, z, e) (round_alike (held_case v) u v h))
    (λ z. rw (same ∙ z, z) h)

module _ (s t : List ℕ) (e : outcome s ≡ outcome t) where
  held_alike : held_by s ≡ held_by t
  unfolding held_by held_input
  held_alike = rw e (by_test (eqb (outcome t).refusal.number 0) (λ z. rw z (case_alike s t e)) (λ z. rw z refl))

  standing_alike : (i : ℕ) → Standing (solving s i) (solving t i)
  unfolding solving after begun first_state first_state_with held_by
  standing_alike zero = record { values = refl; pairs = ap pair_count held_alike; over = refl }
  standing_alike (suc i) = advance_alike (solving s i) (solving t i) (copy_whole s i ∙ held_alike ∙ sym (copy_whole t i)) (standing_alike i)

  replies_alike : (i pair : ℕ) → asked (solving s i) pair ≡ asked (solving t i) pair
  unfolding asked certain_of
  replies_alike i pair = let h = standing_alike i in rw (h.values, h.pairs, h.over)

  advances_alike : (i : ℕ) → (advance_answer (solving s i)).over ≡ (advance_answer (solving t i)).over
  unfolding advance_answer solving after
  advances_alike i = rw (standing_alike (suc i)).over

pub read_alike : (s t : List ℕ) → outcome s ≡ outcome t → AnsweredAlike s t
unfolding solve_refusal solve_answer solve_values solve_levels solve_verdicts check_refusal check_answer old_refusal old_answer rank_refusal rank_answer rank_strata totals_refusal totals_answer
read_alike s t e = record {
  read = reading_alike s t e;
  solve = λ v l d. rw (e, case_alike s t e);
  values = λ v l d. rw (e, case_alike s t e);
  levels = λ v l d. rw (e, case_alike s t e);
  verdicts = λ v l d. rw (e, case_alike s t e);
  check = λ v l. rw (e, case_alike s t e);
  check_supported = λ v. rw (e, case_alike s t e);
  rank = λ r. rw (e, case_alike s t e);
  strata = λ r. rw (e, case_alike s t e);
  totals = λ a. rw (e, case_alike s t e);
  fewest_edges = fewest_alike s t e;
  begin = begins_as_read s ∙ reading_alike s t e ∙ sym (begins_as_read t);
  advance = advances_alike s t e;
  ask = replies_alike s t e;
}

-- "No 00 means profile 0": behind 00 00 an input that reads without a 00 is answered alike
pub no_profile_is_0 : (s : List ℕ) → headed s ≡ false → Reads s → AnsweredAlike (0x00 ∷ 0x00 ∷ s) s
unfolding later
no_profile_is_0 s h r = read_alike (0x00 ∷ 0x00 ∷ s) s (without_profile s h ∙ rw r)
