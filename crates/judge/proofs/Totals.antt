-- Totals by fitting: their refusal is that of the definition, and what is counted off the solved sets is what it counts. Assumes nothing.
use Prim.Native.Nat.{ℕ, ◌+◌, ◌*◌, ◌<◌}
use native.Mathlib.Omega.{arith}
use mathlib.Core.Path.{◌≡◌, refl, sym, ap₂, ◌∙◌}
use mathlib.Core.Bool.{true}
use mathlib.Core.List.{List}
use lib.ListN.{get_or}
use lib.Dec.{eqb, ltb}
use borrow.Author.Tests.{ne_eqb, ltb-true}
use Rattle.cases.specs.Faults.{Refusal, no_refusal}
use Rattle.cases.specs.Counts.{words_of}
use Rattle.cases.specs.Rows.{case_in, CaseIn}
use Rattle.cases.specs.declared.refusals.Refused.{Refused}
use Rattle.cases.specs.Refusals.{refusal_says}
use Rattle.cases.proofs.Faulted.{refused_some}
use Rattle.cases.specs.declared.counts.Counts.{Counts}
use Rattle.cases.proofs.InRows.{nodes_in, shapes_in}
use Rattle.fixpoint.specs.Lists.{up_to, count}
use Rattle.fixpoint.proofs.Lists.{count_map}
use Rattle.std.specs.Prelude.{Err}
use Rattle.reader.specs.Parsing.{Parsed, ParsedAs, parsed_in}
use Rattle.semantics.specs.declared.answers.Totals.{Totals}
use Rattle.semantics.specs.Operations.{or_else, refuse_unless, counted, tally}
use Rattle.semantics.specs.Solving.{solved_values}
use Rattle.semantics.specs.Totals.{node_tally, totals_fault, totals_refusal, totals, totals_answer}
use Rattle.semantics.specs.Values.{pair_of, entry_at}
use Rattle.semantics.proofs.Refusing.{or_else_next, or_else_this, or_else_none, unless_none}
use Rattle.solver.specs.Rounding.{SetsSolved}
use Rattle.pairs.specs.Values.{node_values, node_totals}
use Rattle.pairs.proofs.Answered.{values_by_lem}
use Rattle.pairs.proofs.Valued.{node_values_are}
use Rattle.semantics.specs.Answered.{refused_totals}
use Rattle.adding.proofs.Parsed.{parsed_refusal, parsed_case}
use Rattle.judge.proofs.Solves.{values_solved}

module _ {s : List ℕ} {p : Parsed} {rows : List ℕ} (node : ℕ) {unknown r : Refusal} (h : ParsedAs s p rows)
    (q : unknown ≡ refuse_unless (ltb node p.counts.nodes) 5 node) (e : r ≡ or_else p.refusal unknown) where
  refusal_is : r ≡ totals_refusal s node
  unfolding totals_refusal totals_fault
  refusal_is = rw (← parsed_refusal h, ← parsed_case h, nodes_in p.counts rows) (e ∙ rw q)

  pub totals_refused : (r.number ≡ 0 → ⊥) → refused_totals r ≡ totals_answer s node
  unfolding totals_answer totals counted
  totals_refused some = rw (← refusal_is) (rw (ne_eqb r.number 0 some))

  module _ (none : r.number ≡ 0) where
    passed : (p.refusal.number ≡ 0) × (ltb node p.counts.nodes ≡ true)
    passed =
        (or_else_none p.refusal (refuse_unless (ltb node p.counts.nodes) 5 node) (λ z. z, λ z. z)
        (unless_none (ltb node p.counts.nodes) 5 node (omega arith))).0
        (rw (e, q) at none)

    node_there : node < p.counts.nodes
    node_there = ltb-true _ _ passed.1

    well : r ≡ no_refusal
    unfolding or_else refuse_unless
    well = e ∙ rw (passed.0, q, passed.1)

    case_read : {a : Totals} → a ≡ totals no_refusal (case_in p.counts rows) node → a ≡ totals_answer s node
    unfolding totals_answer
    case_read f = rw (← refusal_is, well, ← parsed_case h) f

-- reading's refusal, then that of the node, then the rest
module _ {s rows : List ℕ} (node : ℕ) where
  pub totals_unread : (e : Refused) → ParsedAs s (parsed_in (Err e)) rows → refused_totals (refusal_says e) ≡ totals_answer s node
  totals_unread e h = totals_refused node h refl (sym (or_else_this _ _ (refused_some e))) (refused_some e)

  module _ {counts : Counts} (h : ParsedAs s (record { refusal = no_refusal; counts = counts }) rows) where
    pub totals_unknown : (e : Refused) → refusal_says e ≡ refuse_unless (ltb node counts.nodes) 5 node → refused_totals (refusal_says e) ≡ totals_answer s node
    totals_unknown e q = totals_refused node h q (sym (or_else_next no_refusal _ refl)) (refused_some e)

    module _ (q : no_refusal ≡ refuse_unless (ltb node counts.nodes) 5 node) where
      abbrev none : no_refusal ≡ or_else no_refusal no_refusal
      none = sym (or_else_next no_refusal no_refusal refl)

      pub node_known : node < counts.nodes
      node_known = node_there node h q none refl

      pub totals_read : {a : Totals} → a ≡ totals no_refusal (case_in counts rows) node → a ≡ totals_answer s node
      totals_read = case_read node h q none refl

-- A case that was read: the node's pairs are counted off the solved sets
module _ {counts : Counts} {rows valid possible : List ℕ} (h : CaseIn counts rows) {rounds : ℕ} (k : SetsSolved (case_in counts rows) (words_of counts) valid possible rounds)
    {node : ℕ} (known : node < counts.nodes) where
  tally_is : (v : ℕ) → tally v (node_values counts node valid possible) ≡ node_tally v (case_in counts rows) node
  unfolding node_tally entry_at pair_of tally
  tally_is v =
      let c = case_in counts rows in
      let solved : List ℕ = solved_values c in
      rw (node_values_are counts node valid possible known, values_by_lem counts rows valid possible, values_solved counts rows k)
      (count_map (λ s. get_or solved (s * counts.nodes + node) 0) (up_to counts.shapes) (λ x. eqb x v))
      ∙ ap₂ (λ m n. count (up_to m) (λ s. eqb (get_or solved (s * n + node) 0) v)) (sym (shapes_in counts rows)) (sym (nodes_in counts rows))

  pub node_totalled : {r : Totals} → r ≡ node_totals counts node valid possible → r ≡ totals no_refusal (case_in counts rows) node
  unfolding totals counted
  node_totalled e = e ∙ rw (tally_is 2, tally_is 1)
