-- The first fault under either code, and the answer that goes with it. Assumes nothing.
use Prim.Native.Nat.{ℕ, ◌*◌}
use mathlib.Core.Path.{◌≡◌, ap, ◌∙◌}
use Rattle.std.specs.Prelude.{Result, Err}
use Rattle.std.specs.Result.{IsErrAnd}
use Rattle.std.proofs.lemmas.Result.{err_from_is_err_and}
use mathlib.Core.List.{List}
use lib.ListN.{take}
use borrow.Author.Tests.{ne_eqb}
use Rattle.cases.specs.Faults.{Refusal, no_refusal}
use Rattle.cases.specs.Case.{Case}
use Rattle.cases.specs.Rows.{case_in}
use Rattle.cases.specs.Refusals.{refusal_says}
use Rattle.cases.specs.declared.refusals.Refused.{Refused}
use Rattle.cases.specs.declared.counts.Counts.{Counts}
use Rattle.cases.proofs.InRows.{nodes_in, shapes_in}
use Rattle.semantics.specs.declared.answers.Checked.{Checked}
use Rattle.semantics.specs.OldCode.{support_fault}
use Rattle.semantics.specs.Operations.{or_else, counted, tally, levels_in, value_fault, pair_fault, checked}
use Rattle.semantics.specs.Answered.{refused_checked}
use Rattle.semantics.specs.Solving.{target_values}
use Rattle.semantics.specs.Values.{pair_count}
use Rattle.checker.specs.declared.checking.Code.{Code}
use Rattle.checker.specs.declared.checking.Code.TheVariants.{Older, Newer}
use Rattle.checker.specs.Codes.{proposal_fault, checked_in}
use Rattle.cases.proofs.Faulted.{refused_some}

-- ---- By code

module _ {code : Code} (c : Case) (values levels : List ℕ) {r : Refusal} where
  pub fault_older : code ≡ Older → r ≡ or_else (value_fault c values) (support_fault c values) → r ≡ proposal_fault code c values levels
  unfolding proposal_fault
  fault_older e f = f ∙ rw e

  pub fault_newer : code ≡ Newer → r ≡ or_else (value_fault c values) (pair_fault c values (levels_in (pair_count c) levels)) → r ≡ proposal_fault code c values levels
  unfolding proposal_fault
  fault_newer e f = f ∙ rw e

-- ---- The answer

-- a refusal's
pub refused_is : (r : Refusal) (c : Case) (values : List ℕ) → (r.number ≡ 0 → ⊥) → refused_checked r ≡ checked r c values
unfolding checked counted
refused_is r c values some = rw (ne_eqb r.number 0 some)

module _ (counts : Counts) (rows values : List ℕ) {found : Refusal} where
  pub answer_refused : (e : Refused) (r : Result Checked Refused) → IsErrAnd r (λ x. x ≡ e) → refusal_says e ≡ found → checked_in r ≡ checked found (case_in counts rows) values
  answer_refused e r h f =
      let p = err_from_is_err_and r h in
      rw f at (ap checked_in (p.1 ∙ ap Err p.2) ∙ refused_is (refusal_says e) (case_in counts rows) values (refused_some e))

  -- with no fault the counts are those of the proposal
  pub answer_accepted : {u v : ℕ} → no_refusal ≡ found → u ≡ tally 1 (take (counts.shapes * counts.nodes) values) → v ≡ tally 2 (target_values (case_in counts rows) values)
      → record { number = 0; place = 0; undetermined = u; valid = v } ≡ checked found (case_in counts rows) values
  unfolding checked counted pair_count
  answer_accepted z f g = rw (← z, f, g, shapes_in counts rows, nodes_in counts rows)
