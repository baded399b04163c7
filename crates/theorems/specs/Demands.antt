-- What the demands say of bytes in and bytes out. The theorems are proved in proofs/. Assumes nothing.
use Rattle.std.specs.Prelude.{ℕ, ◌*◌, ◌<◌, ◌≡◌, true, List, ◌++◌, map, length, get_or, drop, ltb}
use Rattle.fixpoint.specs.Lists.{all}
use Rattle.cases.specs.Case.{Case}
use Rattle.cases.specs.Reading.{outcome}
use Rattle.semantics.specs.Denial.{OwnDenial, strata}
use Rattle.semantics.specs.Operations.{case_of, level_bytes, solve_answer, solve_values, solve_levels, solve_verdicts, check_answer, rank_strata}
use Rattle.semantics.specs.Solving.{solved_values, solved_levels}
use Rattle.semantics.specs.Solving.{verdicts as verdicts_of}
use Rattle.semantics.specs.Values.{pair_count, pair_of}

-- ---- Demand 1

-- reading does not refuse the input
abbrev pub Reads : List ℕ → Type 0
Reads s = (outcome s).refusal.number ≡ 0

-- "A case is solved when solve answers number 0 for it."
pub record SolvedCase (s value_table level_table verdict_table : List ℕ) : Type 0 where
  pub number_zero : (solve_answer s value_table level_table verdict_table).number ≡ 0

-- solving writes nothing
pub record Untouched (s value_table level_table verdict_table : List ℕ) : Type 0 where
  pub values : solve_values s value_table level_table verdict_table ≡ value_table
  pub levels : solve_levels s value_table level_table verdict_table ≡ level_table
  pub verdicts : solve_verdicts s value_table level_table verdict_table ≡ verdict_table

-- solving writes the leading entries named, and later bytes keep their contents
pub record LeadingWritten (s value_table level_table verdict_table : List ℕ) : Type 0 where
  pub values : solve_values s value_table level_table verdict_table ≡ solved_values (case_of s) ++ drop (pair_count (case_of s)) value_table
  pub levels : solve_levels s value_table level_table verdict_table ≡ level_bytes (solved_levels (case_of s)) ++ drop (2 * pair_count (case_of s)) level_table
  pub verdicts : solve_verdicts s value_table level_table verdict_table ≡ verdicts_of (case_of s) ++ drop (length (case_of s).targets) verdict_table

-- ranking writes the leading entries named
pub record StrataWritten (s table : List ℕ) : Type 0 where
  pub written : rank_strata s table ≡ strata (case_of s) ++ drop (length (case_of s).shapes) table

-- ---- Demand 2

-- a level table of bytes with which checking takes the assignment
pub record AcceptedLevels (s value_table : List ℕ) : Type 0 where
  pub table : List ℕ
  pub bytes : all table (λ b. ltb b 256) ≡ true
  pub taken : (check_answer s value_table table).number ≡ 0

-- ---- Demand 3

-- the pair of target i
abbrev pub pair_of_target : Case → ℕ → ℕ
pair_of_target c i = get_or (map (λ t. pair_of c t.shape.0 t.node.0) c.targets) i 0

-- ---- Ranking

-- the place of 17 is a shape on a closed walk with a not, and no lower shape is on one
pub record LowestDenied (s : List ℕ) (place : ℕ) : Type 0 where
  pub in_case : place < length (case_of s).shapes
  pub denied : OwnDenial (case_of s) place
  pub lowest : (k : ℕ) → k < place → OwnDenial (case_of s) k → ⊥
