-- Two roads, one cabinet: what solving writes for an input, and for one with only a group's edges. Document 02, point 9; its rounds are
-- `semantics.specs.Groups.LargerRounds`. Assumes nothing.
use Rattle.std.specs.Prelude.{ℕ, ◌<◌, ◌≡◌, Bool, true, List, map, length, get_or}
use Rattle.cases.specs.Case.{Case}
use Rattle.semantics.specs.Groups.{group_case}
use Rattle.semantics.specs.Operations.{case_of, solve_values, solve_verdicts}
use Rattle.semantics.specs.Values.{pair_of}
use Rattle.theorems.specs.Demands.{Reads}

-- the input `own` reads as "the case with only that group's edges"
pub record ReadsGroup (s : List ℕ) (g : ℕ → Bool) (own : List ℕ) : Type 0 where
  pub own_reads : Reads own
  pub only_its_edges : case_of own ≡ group_case (case_of s) g

-- the node of target i
abbrev pub node_of_target : Case → ℕ → ℕ
node_of_target c i = get_or (map (λ t. t.node.0) c.targets) i 0

-- "the values and verdicts of each group are those of the case with only that group's edges, read on that group's nodes": the bytes that
-- solving leaves in the tables lent for `s` and in those lent for `own`. "Levels aren't compared"
pub record WrittenAlike (g : ℕ → Bool) (s v l d own v₁ l₁ d₁ : List ℕ) : Type 0 where
  pub values : (shape a : ℕ) → shape < length (case_of s).shapes → a < (case_of s).nodes → g a ≡ true
      → get_or (solve_values s v l d) (pair_of (case_of s) shape a) 0 ≡ get_or (solve_values own v₁ l₁ d₁) (pair_of (case_of own) shape a) 0
  pub verdicts : (i : ℕ) → i < length (case_of s).targets → g (node_of_target (case_of s) i) ≡ true
      → get_or (solve_verdicts s v l d) i 0 ≡ get_or (solve_verdicts own v₁ l₁ d₁) i 0
