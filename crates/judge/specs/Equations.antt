-- The equations of solving's and ranking's entry points: the answer and the final contents of each table, on refusal too. Assumes nothing.
use Rattle.std.specs.Prelude.{ℕ, ◌≡◌, List}
use Rattle.semantics.specs.declared.answers.Ranked.{Ranked}
use Rattle.semantics.specs.declared.answers.Solution.{Solution}
use Rattle.semantics.specs.Operations.{solve_answer, solve_values, solve_levels, solve_verdicts, rank_answer, rank_strata}

-- solving
pub record SolvedAs (s values levels verdicts : List ℕ) (r : Solution) (values' levels' verdicts' : List ℕ) : Type 0 where
  pub answer : r ≡ solve_answer s values levels verdicts
  pub values_left : values' ≡ solve_values s values levels verdicts
  pub levels_left_is : levels' ≡ solve_levels s values levels verdicts
  pub verdicts_left : verdicts' ≡ solve_verdicts s values levels verdicts

-- with the refusal number alone
pub record NumberedAs (s values levels verdicts : List ℕ) (number : ℕ) (values' levels' verdicts' : List ℕ) : Type 0 where
  pub answer : number ≡ (solve_answer s values levels verdicts).number
  pub values_left : values' ≡ solve_values s values levels verdicts
  pub levels_left_is : levels' ≡ solve_levels s values levels verdicts
  pub verdicts_left : verdicts' ≡ solve_verdicts s values levels verdicts

-- ranking
pub record CaseRanked (s strata : List ℕ) (r : Ranked) (strata' : List ℕ) : Type 0 where
  pub answer : r ≡ rank_answer s strata
  pub strata_left : strata' ≡ rank_strata s strata
