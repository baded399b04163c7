-- Ranking: its refusal is that of the definition, a refusal writes nothing, and else the strata are written and counted. Assumes nothing.
use Prim.Native.Nat.{ℕ, ◌≤◌}
use native.Mathlib.Omega.{arith}
use mathlib.Core.Path.{◌≡◌, refl, sym, ◌∙◌}
use mathlib.Core.List.{List}
use lib.ListN.{length}
use lib.Dec.{leb}
use borrow.Author.Tests.{ne_eqb, leb-true}
use Rattle.cases.specs.Faults.{Refusal, no_refusal}
use Rattle.cases.specs.Rows.{case_in, CaseIn}
use Rattle.cases.specs.declared.refusals.Refused.{Refused}
use Rattle.cases.specs.Refusals.{refusal_in, refusal_says}
use Rattle.cases.proofs.Faulted.{refused_some}
use Rattle.cases.specs.declared.counts.Counts.{Counts}
use Rattle.cases.proofs.InRows.{shapes_in, shape_rule_in}
use Rattle.std.specs.Prelude.{Result, Err}
use Rattle.reader.specs.Parsing.{Parsed, ParsedAs, parsed_in}
use Rattle.references.specs.Referring.{ShapesIn}
use Rattle.references.proofs.Shapes.{shapes_of}
use Rattle.semantics.specs.Operations.{or_else, refuse_unless, too_short, counted, denial_fault, rank_fault, rank_refusal, ranked, rank_answer, rank_strata}
use Rattle.semantics.proofs.Refusing.{or_else_next, or_else_this, or_else_none, or_else_assoc, unless_none, written_refused}
use Rattle.strata.specs.Ranks.{RankedAs, strata_in}
use Rattle.judge.specs.Equations.{CaseRanked}
use Rattle.semantics.specs.Answered.{ranked_by}
use Rattle.adding.proofs.Parsed.{parsed_refusal, parsed_case}

pub ranked_shapes_there : {counts : Counts} {rows : List ℕ} → CaseIn counts rows → ShapesIn counts rows
ranked_shapes_there {counts} {rows} h = shapes_of h.sound (shapes_in counts rows) (shape_rule_in counts rows) h.fit.shapes_fit h.full

module _ {s : List ℕ} {p : Parsed} {rows : List ℕ} (table : List ℕ) {short r : Refusal} (h : ParsedAs s p rows)
    (q : short ≡ refuse_unless (leb p.counts.shapes (length table)) 16 p.counts.shapes) (e : r ≡ or_else p.refusal short) where
  refusal_is : rank_refusal s table ≡ or_else r (denial_fault (case_in p.counts rows))
  unfolding rank_refusal rank_fault too_short
  refusal_is =
      rw (← parsed_refusal h, ← parsed_case h, shapes_in p.counts rows, e, q)
      (sym (or_else_assoc p.refusal (refuse_unless (leb p.counts.shapes (length table)) 16 p.counts.shapes) (denial_fault (case_in p.counts rows))))

  pub rank_refused : (r.number ≡ 0 → ⊥) → CaseRanked s table (ranked_by r 0) table
  unfolding rank_answer rank_strata ranked counted
  rank_refused some =
      let is : rank_refusal s table ≡ r = refusal_is ∙ or_else_this r _ some in
      record { answer = rw is (rw (ne_eqb r.number 0 some)); strata_left = rw is (sym (written_refused r _ table some)) }

  module _ (none : r.number ≡ 0) where
    table_there : p.counts.shapes ≤ length table
    table_there =
        leb-true _ _ ((or_else_none p.refusal (refuse_unless (leb p.counts.shapes (length table)) 16 p.counts.shapes) (λ z. z, λ z. z)
        (unless_none (leb p.counts.shapes (length table)) 16 _ (omega arith))).0 (rw (e, q) at none)).1

    shapes_ranked : {ranks : Result ℕ Refused} {table' : List ℕ} → RankedAs (case_in p.counts rows) table ranks table'
        → CaseRanked s table (ranked_by (refusal_in ranks) (strata_in ranks)) table'
    unfolding rank_answer rank_strata ranked
    shapes_ranked d =
        let is : rank_refusal s table ≡ denial_fault (case_in p.counts rows) = refusal_is ∙ or_else_next r _ none in
        record { answer = rw (is, ← parsed_case h) (rw (d.refused, d.count)); strata_left = rw (is, ← parsed_case h) d.left }

-- reading's refusal, then that of the length, then the rest
module _ {s rows : List ℕ} (table : List ℕ) where
  pub rank_unread : (e : Refused) → ParsedAs s (parsed_in (Err e)) rows → CaseRanked s table (ranked_by (refusal_says e) 0) table
  rank_unread e h = rank_refused table h refl (sym (or_else_this _ _ (refused_some e))) (refused_some e)

  module _ {counts : Counts} (h : ParsedAs s (record { refusal = no_refusal; counts = counts }) rows) where
    abbrev short : Refusal
    short = refuse_unless (leb counts.shapes (length table)) 16 counts.shapes

    pub rank_short : (e : Refused) → refusal_says e ≡ short → CaseRanked s table (ranked_by (refusal_says e) 0) table
    rank_short e q = rank_refused table h q (sym (or_else_next no_refusal _ refl)) (refused_some e)

    module _ (q : no_refusal ≡ short) where
      abbrev none : no_refusal ≡ or_else no_refusal no_refusal
      none = sym (or_else_next no_refusal no_refusal refl)

      pub strata_there : counts.shapes ≤ length table
      strata_there = table_there table h q none refl

      pub rank_read : {ranks : Result ℕ Refused} {table' : List ℕ} → RankedAs (case_in counts rows) table ranks table'
          → CaseRanked s table (ranked_by (refusal_in ranks) (strata_in ranks)) table'
      rank_read = shapes_ranked table h q none refl
