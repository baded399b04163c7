-- Checking: its refusal is that of the definition, and so is its answer. Assumes nothing.
use Prim.Native.Nat.{ℕ, ◌*◌, ◌≤◌}
use native.Mathlib.Omega.{arith}
use mathlib.Core.Path.{◌≡◌, refl, sym, ap, ap₂, ◌∙◌}
use mathlib.Core.Bool.{true}
use mathlib.Core.List.{List}
use lib.ListN.{length}
use lib.Dec.{leb}
use borrow.Author.Tests.{leb-true}
use Rattle.cases.specs.Faults.{Refusal, no_refusal}
use Rattle.cases.specs.Rows.{case_in}
use Rattle.cases.specs.declared.refusals.Refused.{Refused}
use Rattle.cases.specs.Refusals.{refusal_says}
use Rattle.cases.proofs.Faulted.{refused_some}
use Rattle.cases.specs.declared.counts.Counts.{Counts}
use Rattle.std.specs.Prelude.{Err}
use Rattle.reader.specs.Parsing.{Parsed, ParsedAs, parsed_in}
use Rattle.semantics.specs.declared.answers.Checked.{Checked}
use Rattle.semantics.specs.Operations.{or_else, too_short, case_of, check_fault, check_refusal, checked, check_answer}
use Rattle.semantics.specs.Values.{pair_count}
use Rattle.semantics.proofs.Refusing.{or_else_next, or_else_this, or_else_none, or_else_assoc, unless_none}
use Rattle.checker.specs.Codes.{proposal_fault}
use Rattle.checker.specs.declared.checking.Code.TheVariants.{Newer}
use Rattle.checker.proofs.Answered.{refused_is}
use Rattle.judge.specs.Checked.{short_check}
use Rattle.semantics.specs.Answered.{refused_checked}
use Rattle.pairs.proofs.Answered.{pairs_in}
use Rattle.adding.proofs.Parsed.{parsed_refusal, parsed_case}

-- what `?` hands on is the first of two refusals, and what follows it the second where the first is none
pub first_refuses_so : (first second : Refusal) (e : Refused) → refusal_says e ≡ first → refusal_says e ≡ or_else first second
first_refuses_so first second e q = rw (← q) (sym (or_else_this _ _ (refused_some e)))

pub then_second : (first second : Refusal) {r : Refusal} → no_refusal ≡ first → r ≡ second → r ≡ or_else first second
then_second first second q f = rw (← q) (f ∙ sym (or_else_next no_refusal _ refl))

module _ {s : List ℕ} {p : Parsed} {rows : List ℕ} (values levels : List ℕ) {short r : Refusal} (h : ParsedAs s p rows)
    (q : short ≡ short_check p.counts (length values) (length levels)) (e : r ≡ or_else p.refusal short) where
  -- its own part comes after what reading and the lengths refuse
  refusal_is : check_refusal s values levels ≡ or_else r (proposal_fault Newer (case_in p.counts rows) values levels)
  unfolding check_refusal check_fault too_short proposal_fault
  refusal_is =
      let c = case_in p.counts rows in
      let values_short = too_short 10 (pair_count c) values in
      let levels_short = too_short 11 (2 * pair_count c) levels in
      rw (← parsed_refusal h, ← parsed_case h, e, q, ← pairs_in p.counts rows)
      (sym (or_else_assoc p.refusal (or_else values_short levels_short) (proposal_fault Newer c values levels)
      ∙ ap (or_else p.refusal) (or_else_assoc values_short levels_short (proposal_fault Newer c values levels))))

  pub check_refused : {a : Checked} → (r.number ≡ 0 → ⊥) → a ≡ refused_checked r → a ≡ check_answer s values levels
  unfolding check_answer
  check_refused some f = f ∙ refused_is r (case_of s) values some ∙ ap (λ (o : Refusal). checked o (case_of s) values) (sym (refusal_is ∙ or_else_this r _ some))

  module _ (none : r.number ≡ 0) where
    passed : (p.refusal.number ≡ 0) × ((leb (p.counts.shapes * p.counts.nodes) (length values) ≡ true) × (leb (2 * (p.counts.shapes * p.counts.nodes)) (length levels) ≡ true))
    passed =
        (or_else_none p.refusal (short_check p.counts (length values) (length levels)) (λ z. z, λ z. z)
        (or_else_none _ _ (unless_none (leb (p.counts.shapes * p.counts.nodes) (length values)) 10 _ (omega arith))
        (unless_none (leb (2 * (p.counts.shapes * p.counts.nodes)) (length levels)) 11 _ (omega arith)))).0
        (rw (e, q) at none)

    values_there : p.counts.shapes * p.counts.nodes ≤ length values
    values_there = leb-true _ _ passed.1.0

    levels_there : 2 * (p.counts.shapes * p.counts.nodes) ≤ length levels
    levels_there = leb-true _ _ passed.1.1

    proposal_read : {a : Checked} → a ≡ checked (proposal_fault Newer (case_in p.counts rows) values levels) (case_in p.counts rows) values → a ≡ check_answer s values levels
    unfolding check_answer
    proposal_read f = f ∙ ap₂ (λ o c. checked o c values) (sym (refusal_is ∙ or_else_next r _ none)) (parsed_case h)

-- reading's refusal, then that of the lengths, then the rest
module _ {s rows : List ℕ} (values levels : List ℕ) where
  pub check_unread : (e : Refused) → ParsedAs s (parsed_in (Err e)) rows → refused_checked (refusal_says e) ≡ check_answer s values levels
  check_unread e h = check_refused values levels h refl (sym (or_else_this _ _ (refused_some e))) (refused_some e) refl

  module _ {counts : Counts} (h : ParsedAs s (record { refusal = no_refusal; counts = counts }) rows) where
    pub check_short : (e : Refused) → refusal_says e ≡ short_check counts (length values) (length levels) → refused_checked (refusal_says e) ≡ check_answer s values levels
    check_short e q = check_refused values levels h q (sym (or_else_next no_refusal _ refl)) (refused_some e) refl

    module _ (q : no_refusal ≡ short_check counts (length values) (length levels)) where
      abbrev none : no_refusal ≡ or_else no_refusal no_refusal
      none = sym (or_else_next no_refusal no_refusal refl)

      pub check_values_there : counts.shapes * counts.nodes ≤ length values
      check_values_there = values_there values levels h q none refl

      pub check_levels_there : 2 * (counts.shapes * counts.nodes) ≤ length levels
      check_levels_there = levels_there values levels h q none refl

      pub check_read : {a : Checked} → a ≡ checked (proposal_fault Newer (case_in counts rows) values levels) (case_in counts rows) values → a ≡ check_answer s values levels
      check_read = proposal_read values levels h q none refl
