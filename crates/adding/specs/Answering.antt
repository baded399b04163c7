-- What is refused before the search. Assumes nothing.
use Rattle.std.specs.Prelude.{ℕ, List, length, ltb}
use Rattle.cases.specs.declared.counts.Counts.{Counts}
use Rattle.fixpoint.specs.Lists.{up_to}
use Rattle.semantics.specs.Adding.{candidate_count, list_fits}
use Rattle.semantics.specs.Operations.{or_else, first_of, refuse_unless}
use Rattle.adding.specs.Candidates.{unknown_at}
use Rattle.cases.specs.Faults.{Refusal}

-- 23 and 24, by the counts of the case
unfoldable pub asked_fault : Counts → ℕ → List ℕ → Refusal
asked_fault counts target list =
    or_else (refuse_unless (list_fits list) 23 (length list))
    (or_else (refuse_unless (ltb target counts.targets) 24 0)
    (first_of (up_to (candidate_count list)) (unknown_at list counts.nodes)))
