-- Checking under the old code: its refusal is that of the definition, and so is its answer. Assumes nothing.
use Prim.Native.Nat.{ℕ, ◌*◌, ◌≤◌}
use native.Mathlib.Omega.{arith}
use mathlib.Core.Path.{◌≡◌, refl, sym, ap, ap₂, ◌∙◌}
use mathlib.Core.List.{List, []}
use lib.ListN.{length}
use lib.Dec.{leb}
use borrow.Author.Tests.{leb-true}
use Rattle.cases.specs.Faults.{Refusal, no_refusal}
use Rattle.cases.specs.Rows.{case_in}
use Rattle.cases.specs.declared.counts.Counts.{Counts}
use Rattle.cases.specs.declared.refusals.Refused.{Refused}
use Rattle.cases.specs.Refusals.{refusal_says}
use Rattle.cases.proofs.Faulted.{refused_some}
use Rattle.std.specs.Prelude.{Err}
use Rattle.reader.specs.Parsing.{Parsed, ParsedAs, parsed_in}
use Rattle.semantics.specs.declared.answers.Checked.{Checked}
use Rattle.semantics.specs.OldCode.{old_fault, old_refusal, with_old_code, old_answer}
use Rattle.semantics.specs.Operations.{or_else, refuse_unless, too_short, case_of, checked}
use Rattle.semantics.specs.Values.{pair_count}
use Rattle.semantics.proofs.Refusing.{or_else_next, or_else_this, or_else_none, or_else_assoc, unless_none}
use Rattle.semantics.specs.Answered.{refused_checked}
use Rattle.checker.specs.Codes.{proposal_fault}
use Rattle.checker.specs.declared.checking.Code.TheVariants.{Older}
use Rattle.checker.proofs.Answered.{refused_is}
use Rattle.pairs.proofs.Answered.{pairs_in}
use Rattle.adding.proofs.Parsed.{parsed_refusal, parsed_case}

module _ {s : List ℕ} {p : Parsed} {rows : List ℕ} (values : List ℕ) {short r : Refusal} (h : ParsedAs s p rows)
    (q : short ≡ refuse_unless (leb (p.counts.shapes * p.counts.nodes) (length values)) 10 (p.counts.shapes * p.counts.nodes)) (e : r ≡ or_else p.refusal short) where
  -- its own part comes after what reading and the length refuse
  refusal_is : (levels : List ℕ) → old_refusal s values ≡ or_else r (proposal_fault Older (case_in p.counts rows) values levels)
  unfolding old_refusal old_fault too_short proposal_fault
  refusal_is levels =
      let c = case_in p.counts rows in
      rw (← parsed_refusal h, ← parsed_case h, e, q, ← pairs_in p.counts rows)
      (sym (or_else_assoc p.refusal (too_short 10 (pair_count c) values) (proposal_fault Older c values levels)))

  pub old_refused : (r.number ≡ 0 → ⊥) → with_old_code (refused_checked r) ≡ old_answer s values
  unfolding old_answer
  old_refused some =
      ap with_old_code
      (refused_is r (case_of s) values some ∙ ap (λ (x : Refusal). checked x (case_of s) values) (sym (refusal_is [] ∙ or_else_this r _ some)))

  module _ (none : r.number ≡ 0) where
    values_there : p.counts.shapes * p.counts.nodes ≤ length values
    values_there =
        leb-true _ _
        ((or_else_none p.refusal (refuse_unless (leb (p.counts.shapes * p.counts.nodes) (length values)) 10 (p.counts.shapes * p.counts.nodes)) (λ z. z, λ z. z)
        (unless_none (leb (p.counts.shapes * p.counts.nodes) (length values)) 10 _ (omega arith))).0 (rw (e, q) at none)).1

    proposal_read : (levels : List ℕ) {a : Checked} → a ≡ checked (proposal_fault Older (case_in p.counts rows) values levels) (case_in p.counts rows) values
        → with_old_code a ≡ old_answer s values
    unfolding old_answer
    proposal_read levels f = ap with_old_code (f ∙ ap₂ (λ x c. checked x c values) (sym (refusal_is levels ∙ or_else_next r _ none)) (parsed_case h))

-- reading's refusal, then that of the length, then the rest
module _ {s rows : List ℕ} (values : List ℕ) where
  pub old_unread : (e : Refused) → ParsedAs s (parsed_in (Err e)) rows → with_old_code (refused_checked (refusal_says e)) ≡ old_answer s values
  old_unread e h = old_refused values h refl (sym (or_else_this _ _ (refused_some e))) (refused_some e)

  module _ {counts : Counts} (h : ParsedAs s (record { refusal = no_refusal; counts = counts }) rows) where
    abbrev short : Refusal
    short = refuse_unless (leb (counts.shapes * counts.nodes) (length values)) 10 (counts.shapes * counts.nodes)

    pub old_short : (e : Refused) → refusal_says e ≡ short → with_old_code (refused_checked (refusal_says e)) ≡ old_answer s values
    old_short e q = old_refused values h q (sym (or_else_next no_refusal _ refl)) (refused_some e)

    module _ (q : no_refusal ≡ short) where
      abbrev none : no_refusal ≡ or_else no_refusal no_refusal
      none = sym (or_else_next no_refusal no_refusal refl)

      pub old_values_there : counts.shapes * counts.nodes ≤ length values
      old_values_there = values_there values h q none refl

      pub old_read : (levels : List ℕ) {a : Checked} → a ≡ checked (proposal_fault Older (case_in counts rows) values levels) (case_in counts rows) values
          → with_old_code a ≡ old_answer s values
      old_read = proposal_read values h q none refl
