-- Parked edges over bytes: a case without 03 solves as before. Document 02, point 4. Assumes nothing.
use Prim.Native.Nat.{ℕ}
use mathlib.Core.Path.{◌≡◌, refl, sym, ap, ◌∙◌}
use mathlib.Core.List.{List}
use Rattle.cases.specs.Case.{Case}
use Rattle.encoding.proofs.Recording.{outcome_recorded}
use Rattle.semantics.specs.Operations.{case_of, solve_fault, solve_refusal, solution, solve_answer, solve_values, solve_levels, solve_verdicts}
use Rattle.semantics.specs.Parking.{with_edges, linked_before, Alike}
use Rattle.semantics.specs.Paths.{linked}
use Rattle.semantics.specs.Values.{pair_count}
use Rattle.semantics.proofs.Parking.{alike, unparked_as_before}
use Rattle.theorems.specs.Parking.{Unparked, AsBefore, SolvesAs}

module _ (s : List ℕ) (none : Unparked s) where
  lookups : (p a b : ℕ) → linked (case_of s) p a b ≡ linked_before (case_of s) p a b
  unfolding case_of
  lookups p a b = λ i. unparked_as_before (case_of s) (outcome_recorded s) none i p a b

  -- the case that was read is itself as before
  pub unparked_is_before : AsBefore (case_of s) (case_of s)
  unfolding with_edges
  unparked_is_before = record { but_edges = refl; lookup = lookups }

  -- "A case without 03 solves as before"
  pub unparked_solves_as_before : (d : Case) → AsBefore (case_of s) d → SolvesAs s d
  unfolding solve_fault solve_refusal solution solve_answer solve_values solve_levels solve_verdicts pair_count with_edges
  unparked_solves_as_before d b =
      let same : Alike (case_of s) (with_edges (case_of s) d.edges) = alike (case_of s) d.edges
      (λ p a q. lookups p a q ∙ sym (b.lookup p a q) ∙ ap (λ e. linked e p a q) b.but_edges) in
      rw b.but_edges
      record {
        refusal = λ v l t. refl;
        answer = λ v l t. rw (same.round_count, same.values, same.targets);
        values = λ v l t. rw same.values;
        levels = λ v l t. rw same.levels;
        verdict_table = λ v l t. rw same.targets;
      }
