-- A case without 03 solves as before: what solving answers and writes, against the lookup of before. Document 02, point 4. Assumes nothing.
use Rattle.std.specs.Prelude.{ℕ, ◌≡◌, false, List, eqb}
use Rattle.fixpoint.specs.Lists.{any}
use Rattle.cases.specs.Case.{Case}
use Rattle.cases.specs.Reading.{outcome}
use Rattle.semantics.specs.Operations.{case_of, or_else, written, level_bytes, solve_fault, solve_refusal, solution, solve_answer, solve_values, solve_levels, solve_verdicts}
use Rattle.semantics.specs.Parking.{with_edges, linked_before}
use Rattle.semantics.specs.Paths.{linked}
use Rattle.semantics.specs.Solving.{solved_values, solved_levels, verdicts}

-- the case that was read has no 03
abbrev pub Unparked : List ℕ → Type 0
Unparked s = any (case_of s).edges (λ e. eqb e.code 0x03) ≡ false

-- the case but for its edges, by which every lookup answers what it answered before there were parked ones
pub record AsBefore (c d : Case) : Type 0 where
  pub but_edges : d ≡ with_edges c d.edges
  pub lookup : (property a b : ℕ) → linked d property a b ≡ linked_before c property a b

-- whatever tables are lent, what solving answers and writes is that of this case
pub record SolvesAs (s : List ℕ) (d : Case) : Type 0 where
  pub refusal : (v l t : List ℕ) → solve_refusal s v l t ≡ or_else (outcome s).refusal (solve_fault d v l t)
  pub answer : (v l t : List ℕ) → solve_answer s v l t ≡ solution (solve_refusal s v l t) d
  pub values : (v l t : List ℕ) → solve_values s v l t ≡ written (solve_refusal s v l t) (solved_values d) v
  pub levels : (v l t : List ℕ) → solve_levels s v l t ≡ written (solve_refusal s v l t) (level_bytes (solved_levels d)) l
  pub verdict_table : (v l t : List ℕ) → solve_verdicts s v l t ≡ written (solve_refusal s v l t) (verdicts d) t
