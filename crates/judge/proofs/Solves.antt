-- Solving: its refusal is that of the definition, a refusal writes nothing, and what solving a case leaves is what the definition says.
-- Assumes nothing.
use Prim.Native.Nat.{ℕ, ◌*◌}
use native.Mathlib.Omega.{arith}
use mathlib.Core.Path.{◌≡◌, refl, sym, ap, ap₂, ◌∙◌}
use mathlib.Core.Bool.{true}
use mathlib.Core.List.{List}
use lib.ListN.{length}
use lib.Dec.{leb}
use borrow.Author.Tests.{ne_eqb, leb-true}
use Rattle.cases.specs.Faults.{Refusal, no_refusal}
use Rattle.cases.specs.Counts.{words_of}
use Rattle.cases.specs.Rows.{case_in}
use Rattle.cases.specs.declared.refusals.Refused.{Refused}
use Rattle.cases.specs.Refusals.{refusal_says}
use Rattle.cases.proofs.Faulted.{refused_some}
use Rattle.cases.specs.declared.counts.Counts.{Counts}
use Rattle.std.specs.Prelude.{Err}
use Rattle.reader.specs.Parsing.{Parsed, ParsedAs, parsed_in}
use Rattle.pairs.specs.Values.{values_by, AnswersWritten}
use Rattle.semantics.specs.Answered.{refused_solution, solved_with}
use Rattle.semantics.specs.declared.answers.Solution.{Solution}
use Rattle.semantics.specs.declared.answers.Tally.{Tally}
use Rattle.semantics.specs.Operations.{or_else, refuse_unless, too_short, counted, solution, solve_fault, solve_refusal, solve_answer, solve_values, solve_levels, solve_verdicts}
use Rattle.semantics.specs.Solving.{solved_values, values_of, verdicts}
use Rattle.semantics.proofs.Refusing.{or_else_next, or_else_this, or_else_none, unless_none, written_refused}
use Rattle.settling.specs.Settled.{LevelsSettled}
use Rattle.solver.specs.Rounding.{SetsSolved}
use Rattle.judge.specs.Equations.{SolvedAs, NumberedAs}
use Rattle.judge.specs.Solved.{short_solve, SolveRoom, CaseSolved}
use Rattle.pairs.proofs.Answered.{pairs_in}
use Rattle.adding.proofs.Parsed.{parsed_refusal, parsed_case, targets_count}

-- ---- The refusal

short_is : (counts : Counts) (rows values levels verdicts : List ℕ) → short_solve counts (length values) (length levels) (length verdicts) ≡ solve_fault (case_in counts rows) values levels verdicts
unfolding solve_fault too_short
short_is counts rows values levels verdicts = rw (pairs_in counts rows, targets_count counts rows)

module _ {s : List ℕ} {p : Parsed} {rows : List ℕ} (values levels verdicts : List ℕ) {short r : Refusal} (h : ParsedAs s p rows)
    (q : short ≡ short_solve p.counts (length values) (length levels) (length verdicts)) (e : r ≡ or_else p.refusal short) where
  refusal_is : r ≡ solve_refusal s values levels verdicts
  unfolding solve_refusal
  refusal_is = e ∙ ap₂ or_else (parsed_refusal h) (q ∙ short_is p.counts rows values levels verdicts ∙ ap (λ c. solve_fault c values levels verdicts) (parsed_case h))

  pub solve_refused : (r.number ≡ 0 → ⊥) → SolvedAs s values levels verdicts (refused_solution r) values levels verdicts
  unfolding solve_answer solve_values solve_levels solve_verdicts solution counted
  solve_refused some =
      record {
        answer = rw (← refusal_is) (rw (ne_eqb r.number 0 some));
        values_left = rw (← refusal_is) (sym (written_refused r _ values some));
        levels_left_is = rw (← refusal_is) (sym (written_refused r _ levels some));
        verdicts_left = rw (← refusal_is) (sym (written_refused r _ verdicts some));
      }

  module _ (none : r.number ≡ 0) where
    abbrev pairs : ℕ
    pairs = p.counts.shapes * p.counts.nodes

    -- nothing is refused: the case was read, and the tables are long enough
    passed : (p.refusal.number ≡ 0) × ((leb pairs (length values) ≡ true) × ((leb (2 * pairs) (length levels) ≡ true) × (leb p.counts.targets (length verdicts) ≡ true)))
    passed =
        (or_else_none p.refusal (short_solve p.counts (length values) (length levels) (length verdicts)) (λ z. z, λ z. z)
        (or_else_none _ _ (unless_none (leb pairs (length values)) 10 pairs (omega arith))
        (or_else_none _ _ (unless_none (leb (2 * pairs) (length levels)) 11 (2 * pairs) (omega arith))
        (unless_none (leb p.counts.targets (length verdicts)) 12 p.counts.targets (omega arith))))).0
        (rw (e, q) at none)

    tables_room : SolveRoom p.counts values levels verdicts
    tables_room = let t = passed.1 in record { value_room = leb-true _ _ t.0; level_room = leb-true _ _ t.1.0; verdict_room = leb-true _ _ t.1.1 }

    well : r ≡ no_refusal
    unfolding or_else refuse_unless
    well = let t = passed.1 in e ∙ rw (passed.0, q, t.0, t.1.0, t.1.1)

    case_read : {a : Solution} {values' levels' verdicts' : List ℕ} → CaseSolved (case_in p.counts rows) values levels verdicts a values' levels' verdicts'
        → SolvedAs s values levels verdicts a values' levels' verdicts'
    unfolding solve_answer solve_values solve_levels solve_verdicts
    case_read d =
        record {
          answer = rw (← refusal_is, well, ← parsed_case h) d.answer;
          values_left = rw (← refusal_is, well, ← parsed_case h) d.values_left;
          levels_left_is = rw (← refusal_is, well, ← parsed_case h) d.levels_left_is;
          verdicts_left = rw (← refusal_is, well, ← parsed_case h) d.verdicts_left;
        }

-- reading's refusal, then that of the lengths, then the rest
module _ {s rows : List ℕ} (values levels verdicts : List ℕ) where
  pub solve_unread : (e : Refused) → ParsedAs s (parsed_in (Err e)) rows → SolvedAs s values levels verdicts (refused_solution (refusal_says e)) values levels verdicts
  solve_unread e h = solve_refused values levels verdicts h refl (sym (or_else_this _ _ (refused_some e))) (refused_some e)

  module _ {counts : Counts} (h : ParsedAs s (record { refusal = no_refusal; counts = counts }) rows) where
    abbrev short : Refusal
    short = short_solve counts (length values) (length levels) (length verdicts)

    pub solve_short : (e : Refused) → refusal_says e ≡ short → SolvedAs s values levels verdicts (refused_solution (refusal_says e)) values levels verdicts
    solve_short e q = solve_refused values levels verdicts h q (sym (or_else_next no_refusal _ refl)) (refused_some e)

    module _ (q : no_refusal ≡ short) where
      abbrev none : no_refusal ≡ or_else no_refusal no_refusal
      none = sym (or_else_next no_refusal no_refusal refl)

      pub solve_room : SolveRoom counts values levels verdicts
      solve_room = tables_room values levels verdicts h q none refl

      pub solve_read : {a : Solution} {values' levels' verdicts' : List ℕ} → CaseSolved (case_in counts rows) values levels verdicts a values' levels' verdicts'
          → SolvedAs s values levels verdicts a values' levels' verdicts'
      solve_read = case_read values levels verdicts h q none refl

-- ---- A case that was read

module _ (counts : Counts) (rows : List ℕ) {valid possible : List ℕ} where
  pub values_solved : {rounds : ℕ} → SetsSolved (case_in counts rows) (words_of counts) valid possible rounds → values_by counts rows valid possible ≡ solved_values (case_in counts rows)
  unfolding solved_values
  values_solved k = ap₂ (values_of (case_in counts rows)) k.valid_set k.possible_set

module _ {counts : Counts} {rows valid possible : List ℕ} where
  pub case_solved : {levels levels' values values' verdict verdict' : List ℕ} {rounds : ℕ} {t : Tally} {r : Solution}
      → LevelsSettled counts rows levels valid possible levels' rounds → AnswersWritten counts rows valid possible values verdict t values' verdict' → r ≡ solved_with rounds t
      → CaseSolved (case_in counts rows) values levels verdict r values' levels' verdict'
  unfolding solution counted verdicts
  case_solved k a e =
      let solved = values_solved counts rows k.sets in
      record {
        answer = e ∙ rw (k.sets.counted, a.tallied, solved);
        values_left = rw solved at a.values_left;
        levels_left_is = k.levels_left_is;
        verdicts_left = rw solved at a.verdicts_left;
      }

-- the refusal number alone
pub numbered : {s values levels verdict : List ℕ} {r : Solution} {values' levels' verdict' : List ℕ} → SolvedAs s values levels verdict r values' levels' verdict'
    → NumberedAs s values levels verdict r.number values' levels' verdict'
numbered d = record { answer = ap (λ (a : Solution). a.number) d.answer; values_left = d.values_left; levels_left_is = d.levels_left_is; verdicts_left = d.verdicts_left }
