-- Totals by fitting: a node's valid and undetermined pairs. Document 02, point 5. Assumes nothing.
use Rattle.std.specs.Prelude.{ℕ, List, length, eqb, ltb}
use Rattle.fixpoint.specs.Lists.{up_to, count}
use Rattle.cases.specs.Faults.{Refusal}
use Rattle.cases.specs.Case.{Case}
use Rattle.cases.specs.Reading.{outcome}
use Rattle.semantics.specs.declared.answers.Totals.{Totals}
use Rattle.semantics.specs.Operations.{or_else, refuse_unless, counted, case_of}
use Rattle.semantics.specs.Solving.{solved_values}
use Rattle.semantics.specs.Values.{entry_at}

-- how many of the node's pairs, one for each shape, are solved v
unfoldable pub node_tally : ℕ → Case → ℕ → ℕ
node_tally v c node = count (up_to (length c.shapes)) (λ s. eqb (entry_at c (solved_values c) s node) v)

-- "a node not in the case is then 5, place the node"
unfoldable pub totals_fault : Case → ℕ → Refusal
totals_fault c node = refuse_unless (ltb node c.nodes) 5 node

-- "It refuses as reading does"
unfoldable pub totals_refusal : List ℕ → ℕ → Refusal
totals_refusal s node = or_else (outcome s).refusal (totals_fault (case_of s) node)

-- the answer that goes with a refusal, or with none
unfoldable pub totals : Refusal → Case → ℕ → Totals
totals r c node =
    record {
      number = r.number;
      place = r.place;
      valid = counted r (node_tally 2 c node);
      undetermined = counted r (node_tally 1 c node);
    }

unfoldable pub totals_answer : List ℕ → ℕ → Totals
totals_answer s node = totals (totals_refusal s node) (case_of s) node
