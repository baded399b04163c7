-- Inputs that every call answers alike. Document 02, point 8. Assumes nothing.
use Rattle.std.specs.Prelude.{ℕ, ◌≡◌, List}
use Rattle.cases.specs.Reading.{reading}
use Rattle.cases.specs.declared.answers.Reading.{Reading}
use Rattle.semantics.specs.Adding.{fewest_answer}
use Rattle.semantics.specs.OldCode.{old_answer}
use Rattle.semantics.specs.Operations.{solve_answer, solve_values, solve_levels, solve_verdicts, check_answer, rank_answer, rank_strata}
use Rattle.semantics.specs.Totals.{totals_answer}
use Rattle.semantics.specs.Unfinished.{begun, advance_answer, asked}
use Rattle.semantics.specs.declared.ongoing.Begun.{Begun}
use Rattle.theorems.specs.Unfinished.{solving}

-- number, place and counts of a beginning, which its state comes with
abbrev pub beginning : Begun → Reading
beginning b =
    record {
      number = b.number;
      place = b.place;
      nodes = b.nodes;
      edges = b.edges;
      paths = b.paths;
      shapes = b.shapes;
      targets = b.targets;
    }

-- whatever tables are lent, the answers and what is written are the same
pub record AnsweredAlike (s t : List ℕ) : Type 0 where
  pub read : reading s ≡ reading t
  pub solve : (v l d : List ℕ) → solve_answer s v l d ≡ solve_answer t v l d
  pub values : (v l d : List ℕ) → solve_values s v l d ≡ solve_values t v l d
  pub levels : (v l d : List ℕ) → solve_levels s v l d ≡ solve_levels t v l d
  pub verdicts : (v l d : List ℕ) → solve_verdicts s v l d ≡ solve_verdicts t v l d
  pub check : (v l : List ℕ) → check_answer s v l ≡ check_answer t v l
  pub check_supported : (v : List ℕ) → old_answer s v ≡ old_answer t v
  pub rank : (r : List ℕ) → rank_answer s r ≡ rank_answer t r
  pub strata : (r : List ℕ) → rank_strata s r ≡ rank_strata t r
  pub totals : (a : ℕ) → totals_answer s a ≡ totals_answer t a
  pub fewest_edges : (target : ℕ) (list : List ℕ) → fewest_answer s target list ≡ fewest_answer t target list
  -- unfinished solves: what beginning answers; and after any number of advances whether the next one reaches the end, and each reply
  pub begin : beginning (begun s) ≡ beginning (begun t)
  pub advance : (i : ℕ) → (advance_answer (solving s i)).over ≡ (advance_answer (solving t i)).over
  pub ask : (i pair : ℕ) → asked (solving s i) pair ≡ asked (solving t i) pair
