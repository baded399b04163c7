-- The answer: what is refused before the search is what the definition refuses, and the search's end is its first key. Assumes nothing.
use Prim.Native.Nat.{ℕ, ◌+◌, ◌/◌, ◌%◌, ◌≤◌, ◌<◌}
use native.Mathlib.Omega.{arith}
use mathlib.Core.Path.{◌≡◌, refl, sym, ap, ap₂, ◌∙◌}
use mathlib.Core.Logic.Iff
use mathlib.Core.Bool.{Bool, true, ◌&&◌, and-eq-true_iff}
use mathlib.Core.List.{List}
use lib.ListN.{length, get_or}
use lib.Dec.{eqb, ltb, leb}
use Rattle.std.specs.Prelude.{Option, Some, None, Result, Ok, Err}
use Rattle.std.specs.Option.{ok_or}
use borrow.Author.Tests.{ne_eqb, ltb-true, leb-true}
use Rattle.cases.specs.Faults.{Refusal, no_refusal}
use Rattle.cases.specs.Case.{Case}
use Rattle.cases.specs.Refusals.{refusal_says, refused_at}
use Rattle.cases.specs.Rows.{case_in, target_in}
use Rattle.cases.specs.declared.command.Target.{Target}
use Rattle.cases.specs.declared.counts.Counts.{Counts}
use Rattle.cases.specs.declared.refusals.Fault.TheVariants.{NoneSuffices}
use Rattle.cases.specs.declared.refusals.Refused.{Refused}
use Rattle.cases.proofs.Faulted.{refused_some}
use Rattle.cases.proofs.InRows.{nodes_in, shapes_in, edges_in, targets_in}
use Rattle.cases.proofs.Sound.{outcome_limited}
use Rattle.fixpoint.specs.Lists.{up_to, all, first_from}
use Rattle.fixpoint.proofs.Lists.{all_in, length_made, get_d_made, get_d_map}
use Rattle.semantics.specs.Adding.{candidate_at, candidate_count, candidate_known, list_fits, chosen, chosen_count, with_links}
use Rattle.semantics.specs.Adding.{verdict_with, is_sure_by, fewest_key, key_count, key_size, key_selection}
use Rattle.semantics.specs.Adding.{fewest_fault, fewest_refusal, fewest, fewest_answer}
use Rattle.semantics.specs.Answered.{fewest_by}
use Rattle.semantics.specs.Operations.{or_else, first_of, refuse_unless, counted, case_of}
use Rattle.semantics.specs.Parking.{with_edges}
use Rattle.semantics.specs.Solving.{verdicts, target_values}
use Rattle.semantics.proofs.Refusing.{or_else_none, or_else_this, or_else_next, or_else_assoc, unless_none, well_of}
use Rattle.settling.specs.Settled.{solved_at}
use Rattle.reader.specs.Parsing.{ParsedAs, parsed_in}
use Rattle.adding.specs.Answering.{asked_fault}
use Rattle.adding.specs.Candidates.{unknown_at}
use Rattle.adding.specs.Deciding.{sure_over}
use Rattle.adding.specs.Searching.{Searchable, SelectionsOf, first_sure_below}
use Rattle.adding.proofs.Keyed.{none_below, some_below}
use Rattle.adding.proofs.Parsed.{parsed_refusal, parsed_case, targets_count}

-- ---- What is asked of target and list, one after the other

module _ (counts : Counts) (target : ℕ) (list : List ℕ) {fits : Bool} (e : fits ≡ (leb (length list) 60 && eqb (length list % 5) 0)) where
  pub list_unfit : (r : Refused) → refusal_says r ≡ refuse_unless fits 23 (length list) → refusal_says r ≡ asked_fault counts target list
  unfolding asked_fault
  list_unfit r h = rw (← e, ← h) (sym (or_else_this _ _ (refused_some r)))

  module _ (h : no_refusal ≡ refuse_unless fits 23 (length list)) where
    pub target_absent : (r : Refused) → refusal_says r ≡ refuse_unless (ltb target counts.targets) 24 0 → refusal_says r ≡ asked_fault counts target list
    unfolding asked_fault
    target_absent r g = rw (← e, ← h, ← g) (sym (or_else_next _ _ refl ∙ or_else_this _ _ (refused_some r)))

    pub nodes_asked : no_refusal ≡ refuse_unless (ltb target counts.targets) 24 0 → {r : Refusal} → r ≡ first_of (up_to (candidate_count list)) (unknown_at list counts.nodes)
        → r ≡ asked_fault counts target list
    unfolding asked_fault
    nodes_asked g f = f ∙ rw (← e, ← h, ← g) (sym (or_else_next _ _ refl ∙ or_else_next _ _ refl))

-- ---- The target's pair

-- the verdict of a target is its pair's solved value
verdict_is : (c : Case) (target : ℕ) (list : List ℕ) (selection : ℕ) (t : Target) → target < length c.targets → t ≡ get_or c.targets target t
    → verdict_with c target list selection ≡ solved_at (with_links c (chosen list selection)) t
unfolding verdict_with verdicts target_values with_links with_edges
verdict_is c target list selection t h e =
    get_d_map _ c.targets target t 0 h ∙ sym (ap (λ x. solved_at (with_links c (chosen list selection)) x) e)

sure_is : (c : Case) (target : ℕ) (list : List ℕ) (t : Target) → target < length c.targets → t ≡ get_or c.targets target t
    → fewest_key c target list ≡ first_from (key_count list) 0 (sure_over c t list)
unfolding fewest_key is_sure_by sure_over
sure_is c target list t h e =
    λ i. first_from (key_count list) 0
    (λ key. eqb (chosen_count list (key_selection list key)) (key_size list key) && eqb (verdict_is c target list (key_selection list key) t h e i) 2)

-- ---- The answer

module _ (s : List ℕ) (target : ℕ) (list : List ℕ) where
  answer_refused : (r : Refused) → fewest_refusal s target list ≡ refusal_says r → fewest_by (refusal_says r) 0 ≡ fewest_answer s target list
  unfolding fewest_answer fewest counted
  answer_refused r e = rw (e, ne_eqb (refusal_says r).number 0 (refused_some r))

  -- reading's refusal
  pub input_refused : (r : Refused) {rows : List ℕ} → ParsedAs s (parsed_in (Err r)) rows → fewest_by (refusal_says r) 0 ≡ fewest_answer s target list
  unfolding fewest_refusal
  input_refused r h = answer_refused r (rw (← parsed_refusal h) (or_else_this _ _ (refused_some r)))

  module _ {counts : Counts} {rows : List ℕ} (h : ParsedAs s (parsed_in (Ok counts)) rows) where
    abbrev missing : Refusal
    missing = refuse_unless (ltb (fewest_key (case_of s) target list) (key_count list)) 25 0

    abbrev unfit : Refusal
    unfit = refuse_unless (list_fits list) 23 (length list)

    abbrev absent : Refusal
    absent = refuse_unless (ltb target counts.targets) 24 0

    abbrev unknown : Refusal
    unknown = first_of (up_to (candidate_count list)) (unknown_at list counts.nodes)

    fault_is : fewest_fault (case_of s) target list ≡ or_else unfit (or_else absent (or_else unknown missing))
    unfolding fewest_fault unknown_at
    fault_is =
        ap₂ (λ n m. or_else unfit (or_else (refuse_unless (ltb target n) 24 0)
        (or_else (first_of (up_to (candidate_count list)) (λ i. refuse_unless (ltb (candidate_at list i).subject.0 m && ltb (candidate_at list i).object.0 m) 24 (i + 1))) missing)))
        (ap (λ c. length c.targets) (sym (parsed_case h)) ∙ targets_count counts rows)
        (ap (λ c. c.nodes) (sym (parsed_case h)) ∙ nodes_in counts rows)

    refusal_is : fewest_refusal s target list ≡ or_else (asked_fault counts target list) missing
    unfolding fewest_refusal asked_fault
    refusal_is =
        rw (← parsed_refusal h) (or_else_next no_refusal _ refl)
        ∙ fault_is
        ∙ sym (or_else_assoc unfit (or_else absent unknown) missing ∙ ap (or_else unfit) (or_else_assoc absent unknown missing))

    pub asked_refused : (r : Refused) → refusal_says r ≡ asked_fault counts target list → fewest_by (refusal_says r) 0 ≡ fewest_answer s target list
    asked_refused r e = answer_refused r (refusal_is ∙ rw (← e) (or_else_this _ _ (refused_some r)))

    module _ (none : no_refusal ≡ asked_fault counts target list) where
      passed : (list_fits list ≡ true) × ((ltb target counts.targets ≡ true) × (unknown.number ≡ 0))
      unfolding asked_fault
      passed =
          (or_else_none unfit (or_else absent unknown) (unless_none (list_fits list) 23 (length list) (omega arith))
          (or_else_none absent unknown (unless_none (ltb target counts.targets) 24 0 (omega arith)) Iff.rfl)
          ).0 (ap (λ (r : Refusal). r.number) (sym none))

      list_short : length list ≤ 60
      list_short = leb-true (length list) 60 ((and-eq-true_iff (leb (length list) 60) _).0 passed.0).0

      target_there : target < counts.targets
      target_there = ltb-true target counts.targets passed.1.0

      pub list_few : {n : ℕ} → n ≡ length list / 5 → n ≤ 12
      list_few e = omega (arith, list_short)

      pub target_low : target < 256
      target_low = omega (arith, target_there, h.held.fit.targets_fit)

      known_there : (i : ℕ) → i < candidate_count list → candidate_known (case_in counts rows) (candidate_at list i) ≡ true
      unfolding unknown_at
      known_there i l =
          rw (nodes_in counts rows)
          ((unless_none (ltb (candidate_at list i).subject.0 counts.nodes && ltb (candidate_at list i).object.0 counts.nodes) 24 (i + 1) (omega arith)).0
          ((well_of {n = candidate_count list} passed.1.1).each i l))

      edges_few : counts.edges ≤ 1024
      unfolding case_of
      edges_few =
          let counted_edges : length (case_in counts rows).edges ≡ counts.edges = rw (edges_in counts rows) (length_made _ counts.edges) in
          let many : length (case_of s).edges ≡ counts.edges = ap (λ c. length c.edges) (sym (parsed_case h)) ∙ counted_edges in
          omega (arith, many, (outcome_limited s).edges_limited)

      module _ {pair : Target} (stands : pair ≡ target_in rows target) where
        target_is : pair ≡ get_or (case_in counts rows).targets target pair
        target_is = stands ∙ sym (rw (targets_in counts rows) (get_d_made (target_in rows) counts.targets target pair target_there))

        below : (f : Target → Bool) → all (case_in counts rows).targets f ≡ true → f pair ≡ true
        below f y = rw target_is (all_in (case_in counts rows).targets f y target pair (rw (targets_count counts rows) target_there))

        pub searchable : Searchable counts pair rows list
        searchable =
            let c = case_in counts rows in
            let shape_in : pair.shape.0 < length c.shapes = ltb-true _ _ (below (λ t. ltb t.shape.0 (length c.shapes)) h.held.sound.targets_named) in
            let node_in : pair.node.0 < c.nodes = ltb-true _ _ (below (λ t. ltb t.node.0 c.nodes) h.held.sound.targets_known) in
            record {
              case_in_holds = h.held;
              few_edges = edges_few;
              short = list_short;
              known = known_there;
              shape_known = omega (arith, shape_in, shapes_in counts rows);
              node_known = omega (arith, node_in, nodes_in counts rows);
            }

        module _ {key : Option ℕ} (k : key ≡ first_sure_below (key_count list) (sure_over (case_in counts rows) pair list)) where
          abbrev first : ℕ
          first = first_from (key_count list) 0 (sure_over (case_in counts rows) pair list)

          is_first : fewest_key (case_of s) target list ≡ first
          is_first = rw (← parsed_case h) (sure_is (case_in counts rows) target list pair (rw (targets_count counts rows) target_there) target_is)

          answer_is : fewest_answer s target list ≡ fewest (refuse_unless (ltb first (key_count list)) 25 0) (case_of s) target list
          unfolding fewest_answer
          answer_is =
              ap (λ r. fewest r (case_of s) target list) (refusal_is ∙ rw (← none) (or_else_next no_refusal _ refl) ∙ ap (λ x. refuse_unless (ltb x (key_count list)) 25 0) is_first)

          pub none_suffices : (r said : Refused) → key ≡ None → Err r ≡ ok_or key said → said ≡ refused_at NoneSuffices 0
              → fewest_by (refusal_says r) 0 ≡ fewest_answer s target list
          unfolding fewest counted refuse_unless
          none_suffices r said o v e =
              let same : r ≡ refused_at NoneSuffices 0 = let w : ◌≡◌ {A = Result ℕ Refused} (Err r) (Err said) = v ∙ rw o in cc in
              rw same (sym (answer_is ∙ rw (none_below _ _ (sym o ∙ k))))

          pub fewest_found : {x n : ℕ} → key ≡ Some x → SelectionsOf (length list / 5) n → fewest_by no_refusal (x % n) ≡ fewest_answer s target list
          unfolding fewest counted refuse_unless
          fewest_found o v =
              let below = some_below _ _ _ (sym o ∙ k) in
              let key_is : fewest_key (case_of s) target list ≡ first = is_first in
              sym (answer_is ∙ rw (below.0, key_is, below.1, v.is))
