-- The four operations: the answer (number, place, counts) and the final contents of each table, on refusal too.
-- Document 01, "Refusals, operation by operation". Reading is `reading` of the crate cases. Assumes nothing.
use Rattle.std.specs.Prelude.{ℕ, suc, ◌+◌, ◌*◌, ◌/◌, ◌%◌, Bool, cond, not, List, [], ◌∷◌, ◌++◌, map, length, get_or, drop, take, eqb, leb}
use Rattle.fixpoint.specs.Lists.{up_to, count, largest}
use Rattle.cases.specs.Faults.{Refusal, no_refusal}
use Rattle.cases.specs.Case.{Case}
use Rattle.cases.specs.Reading.{outcome}
use Rattle.semantics.specs.declared.answers.Solution.{Solution}
use Rattle.semantics.specs.declared.answers.Checked.{Checked}
use Rattle.semantics.specs.declared.answers.Ranked.{Ranked}
use Rattle.semantics.specs.Values.{pair_count, byte_says, said_number, supported_at}
use Rattle.semantics.specs.Levels.{justified_at}
use Rattle.semantics.specs.Solving.{rounds, solved_values, solved_levels, target_values, verdicts}
use Rattle.semantics.specs.Denial.{own_denial, strata}

-- ---- Refusals and tables

-- the first refusal decides
unfoldable pub or_else : Refusal → Refusal → Refusal
or_else r q = cond (eqb r.number 0) q r

-- the first of many, in order
unfoldable pub first_of : List ℕ → (ℕ → Refusal) → Refusal
first_of [] f = no_refusal
first_of (k ∷ l) f = or_else (f k) (first_of l f)

-- a refusal of number n at a place unless all is well there
unfoldable pub refuse_unless : Bool → ℕ → ℕ → Refusal
refuse_unless ok n place = cond ok no_refusal (record { number = n; place = place })

-- a refusal of number n at a place; the number 0 is none
unfoldable pub refuse : ℕ → ℕ → Refusal
refuse n place = cond (eqb n 0) no_refusal (record { number = n; place = place })

-- a lent table is shorter than needed: the place is the length needed
unfoldable pub too_short : ℕ → ℕ → List ℕ → Refusal
too_short n needed table = refuse_unless (leb needed (length table)) n needed

-- each count that a refusal carries is 0
unfoldable pub counted : Refusal → ℕ → ℕ
counted r n = cond (eqb r.number 0) n 0

-- a refusal writes nothing; otherwise the leading entries are written, and later bytes keep their contents
unfoldable pub written : Refusal → List ℕ → List ℕ → List ℕ
written r entries table = cond (eqb r.number 0) (entries ++ drop (length entries) table) table

-- how many entries of a list are v
unfoldable pub tally : ℕ → List ℕ → ℕ
tally v l = count l (λ x. eqb x v)

-- levels as bytes, two each, low first (a level is at most twice the pair count, so two are enough); and the level of each pair from bytes
unfoldable pub level_bytes : List ℕ → List ℕ
level_bytes [] = []
level_bytes (x ∷ l) = x % 256 ∷ x / 256 ∷ level_bytes l

unfoldable pub levels_in : ℕ → List ℕ → List ℕ
levels_in n bytes = map (λ k. get_or bytes (2 * k) 0 + 256 * get_or bytes (2 * k + 1) 0) (up_to n)

-- the case of an input that reading does not refuse
unfoldable pub case_of : List ℕ → Case
case_of s = (outcome s).case

-- ---- Solving: reading's, then 10, 11 and 12

unfoldable pub solve_fault : Case → List ℕ → List ℕ → List ℕ → Refusal
solve_fault c value_table level_table verdict_table =
    or_else (too_short 10 (pair_count c) value_table)
    (or_else (too_short 11 (2 * pair_count c) level_table)
    (too_short 12 (length c.targets) verdict_table))

unfoldable pub solve_refusal : List ℕ → List ℕ → List ℕ → List ℕ → Refusal
solve_refusal s value_table level_table verdict_table =
    or_else (outcome s).refusal (solve_fault (case_of s) value_table level_table verdict_table)

-- the answer that goes with a refusal, or with none
unfoldable pub solution : Refusal → Case → Solution
solution r c =
    record {
      number = r.number;
      place = r.place;
      rounds = counted r (rounds c);
      valid = counted r (tally 2 (solved_values c));
      undetermined = counted r (tally 1 (solved_values c));
      sure = counted r (tally 2 (verdicts c));
      «open» = counted r (tally 1 (verdicts c));
      impossible = counted r (tally 0 (verdicts c));
    }

unfoldable pub solve_answer : List ℕ → List ℕ → List ℕ → List ℕ → Solution
solve_answer s value_table level_table verdict_table = solution (solve_refusal s value_table level_table verdict_table) (case_of s)

-- the tables after solving
unfoldable pub solve_values : List ℕ → List ℕ → List ℕ → List ℕ → List ℕ
solve_values s value_table level_table verdict_table =
    written (solve_refusal s value_table level_table verdict_table) (solved_values (case_of s)) value_table

unfoldable pub solve_levels : List ℕ → List ℕ → List ℕ → List ℕ → List ℕ
solve_levels s value_table level_table verdict_table =
    written (solve_refusal s value_table level_table verdict_table) (level_bytes (solved_levels (case_of s))) level_table

unfoldable pub solve_verdicts : List ℕ → List ℕ → List ℕ → List ℕ → List ℕ
solve_verdicts s value_table level_table verdict_table =
    written (solve_refusal s value_table level_table verdict_table) (verdicts (case_of s)) verdict_table

-- ---- Checking: reading's, then 10, 11 and 13, then pair by pair 14 and 15

-- 13: the first pair whose byte says no value
unfoldable pub value_fault : Case → List ℕ → Refusal
value_fault c v = first_of (up_to (pair_count c)) (λ k. refuse (said_number (byte_says (get_or v k 0))) k)

-- 14 and 15: the first pair that is not supported or not justified
unfoldable pub pair_fault : Case → List ℕ → List ℕ → Refusal
pair_fault c v l =
    first_of (up_to (pair_count c))
    (λ k. or_else (refuse_unless (supported_at c v k) 14 k) (refuse_unless (justified_at c v l k) 15 k))

unfoldable pub check_fault : Case → List ℕ → List ℕ → Refusal
check_fault c value_table level_table =
    or_else (too_short 10 (pair_count c) value_table)
    (or_else (too_short 11 (2 * pair_count c) level_table)
    (or_else (value_fault c value_table)
    (pair_fault c value_table (levels_in (pair_count c) level_table))))

unfoldable pub check_refusal : List ℕ → List ℕ → List ℕ → Refusal
check_refusal s value_table level_table = or_else (outcome s).refusal (check_fault (case_of s) value_table level_table)

unfoldable pub checked : Refusal → Case → List ℕ → Checked
checked r c value_table =
    record {
      number = r.number;
      place = r.place;
      undetermined = counted r (tally 1 (take (pair_count c) value_table));
      valid = counted r (tally 2 (target_values c value_table));
    }

unfoldable pub check_answer : List ℕ → List ℕ → List ℕ → Checked
check_answer s value_table level_table = checked (check_refusal s value_table level_table) (case_of s) value_table

-- ---- Ranking: reading's, then 16 and 17

-- 17: the lowest shape that depends on its own denial
unfoldable pub denial_fault : Case → Refusal
denial_fault c = first_of (up_to (length c.shapes)) (λ k. refuse_unless (not (own_denial c k)) 17 k)

unfoldable pub rank_fault : Case → List ℕ → Refusal
rank_fault c strataTable = or_else (too_short 16 (length c.shapes) strataTable) (denial_fault c)

unfoldable pub rank_refusal : List ℕ → List ℕ → Refusal
rank_refusal s strataTable = or_else (outcome s).refusal (rank_fault (case_of s) strataTable)

-- the number of strata: one more than the largest byte, 0 for no shapes
unfoldable pub strata_count : Case → ℕ
strata_count c = largest (map suc (strata c))

unfoldable pub ranked : Refusal → Case → Ranked
ranked r c = record { number = r.number; place = r.place; strata = counted r (strata_count c) }

unfoldable pub rank_answer : List ℕ → List ℕ → Ranked
rank_answer s strataTable = ranked (rank_refusal s strataTable) (case_of s)

-- the table after ranking
unfoldable pub rank_strata : List ℕ → List ℕ → List ℕ
rank_strata s strataTable = written (rank_refusal s strataTable) (strata (case_of s)) strataTable
