-- Links to add: what it means that a selection makes a target sure, and the candidate that 24 names. Document 02, point 10. Assumes nothing.
use Rattle.std.specs.Prelude.{ℕ, ◌<◌, ◌≡◌, true, false, List, length}
use Rattle.cases.specs.Case.{Case}
use Rattle.semantics.specs.Adding.{candidate_at, candidate_count, chosen, with_links, selection_count, list_fits, candidate_known}
use Rattle.semantics.specs.Operations.{case_of}
use Rattle.semantics.specs.Stability.{EveryStable}
use Rattle.theorems.specs.Demands.{Reads, pair_of_target}

-- "the case with those edges": the case that was read, with the edges that a selection chooses
abbrev pub linked_case : List ℕ → List ℕ → ℕ → Case
linked_case s list selection = with_links (case_of s) (chosen list selection)

-- "Sure is meant over the case with those edges": every stable assignment of it has the target's pair valid
abbrev pub SureWith : List ℕ → ℕ → List ℕ → ℕ → Type 0
SureWith s target list selection = EveryStable (linked_case s list selection) (pair_of_target (linked_case s list selection) target) 2

-- some selection of the list's makes the target sure
pub record SomeSure (s : List ℕ) (target : ℕ) (list : List ℕ) : Type 0 where
  pub selection : ℕ
  pub of_list : selection < selection_count list
  pub sure : SureWith s target list selection

-- what is asked for stands under none of reading's refusals, 23 and 24
pub record WellAsked (s : List ℕ) (target : ℕ) (list : List ℕ) : Type 0 where
  pub reads : Reads s
  pub list_fits_holds : list_fits list ≡ true
  pub target_known : target < length (case_of s).targets
  pub candidates_known : (i : ℕ) → i < candidate_count list → candidate_known (case_of s) (candidate_at list i) ≡ true

-- candidate k has a node that is not in the case, and no earlier one has
pub record FirstUnknown (s list : List ℕ) (k : ℕ) : Type 0 where
  pub in_list : k < candidate_count list
  pub unknown : candidate_known (case_of s) (candidate_at list k) ≡ false
  pub earlier : (i : ℕ) → i < k → candidate_known (case_of s) (candidate_at list i) ≡ true
