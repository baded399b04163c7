-- Solving, for a case that was read: what is refused by the lengths of the tables, and what is left. Assumes nothing.
use Rattle.std.specs.Prelude.{ℕ, ◌*◌, ◌≤◌, ◌≡◌, List, length, leb}
use Rattle.cases.specs.Faults.{Refusal, no_refusal}
use Rattle.cases.specs.Case.{Case}
use Rattle.cases.specs.declared.counts.Counts.{Counts}
use Rattle.semantics.specs.declared.answers.Solution.{Solution}
use Rattle.semantics.specs.Solving.{solved_values, solved_levels}
use Rattle.semantics.specs.Solving.{verdicts as verdicts_of}
use Rattle.semantics.specs.Operations.{or_else, refuse_unless, written, level_bytes, solution}

-- 10, 11 and 12, by the lengths of the tables
abbrev pub short_solve : Counts → ℕ → ℕ → ℕ → Refusal
short_solve counts values levels verdicts =
    or_else (refuse_unless (leb (counts.shapes * counts.nodes) values) 10 (counts.shapes * counts.nodes))
    (or_else (refuse_unless (leb (2 * (counts.shapes * counts.nodes)) levels) 11 (2 * (counts.shapes * counts.nodes)))
    (refuse_unless (leb counts.targets verdicts) 12 counts.targets))

-- the tables are long enough
pub record SolveRoom (counts : Counts) (values levels verdicts : List ℕ) : Type 0 where
  pub value_room : counts.shapes * counts.nodes ≤ length values
  pub level_room : 2 * (counts.shapes * counts.nodes) ≤ length levels
  pub verdict_room : counts.targets ≤ length verdicts

-- then nothing is refused: the tables begin with what solving writes, and the answer counts it
pub record CaseSolved (c : Case) (values levels verdicts : List ℕ) (r : Solution) (values' levels' verdicts' : List ℕ) : Type 0 where
  pub answer : r ≡ solution no_refusal c
  pub values_left : values' ≡ written no_refusal (solved_values c) values
  pub levels_left_is : levels' ≡ written no_refusal (level_bytes (solved_levels c)) levels
  pub verdicts_left : verdicts' ≡ written no_refusal (verdicts_of c) verdicts
