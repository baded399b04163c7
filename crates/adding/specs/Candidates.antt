-- What is asked of candidates: whether their nodes are in a case, and of which properties they are. Assumes nothing.
use Rattle.std.specs.Prelude.{ℕ, ◌+◌, Bool, ◌&&◌, List, eqb, ltb}
use Rattle.fixpoint.specs.Lists.{up_to, any}
use Rattle.semantics.specs.Adding.{candidate_at, candidate_count}
use Rattle.semantics.specs.Operations.{refuse_unless}
use Rattle.cases.specs.Faults.{Refusal}

-- 24 for candidate i unless its nodes are among the first so many
unfoldable pub unknown_at : List ℕ → ℕ → ℕ → Refusal
unknown_at list nodes i = refuse_unless (ltb (candidate_at list i).subject.0 nodes && ltb (candidate_at list i).object.0 nodes) 24 (i + 1)

-- some candidate is of the property
unfoldable pub of_property : List ℕ → ℕ → Bool
of_property list q = any (up_to (candidate_count list)) (λ i. eqb (candidate_at list i).property.0 q)
