-- Groups of nodes that no edge joins: each group's values are those of its own case, and the rounds are the larger of the two groups'.
-- Document 02, point 9. Assumes nothing.
--
-- The idea: from the group's nodes the case and the group's case have the same links, which lead to such nodes only, so they agree on the group
-- (AgreeingCases); and what agrees there rests there by itself (fixpoint's Cuts).
use Prim.Native.Nat.{ℕ, ◌<◌}
use native.Mathlib.Omega.{arith}
use mathlib.Core.Path.{◌≡◌, refl, sym, ap, ap₂, ◌∙◌}
use mathlib.Core.Bool.{Bool, true, false, not, ◌&&◌, beq, false≢true, and-eq-true_iff}
use lib.ListN.{get_or}
use Rattle.fixpoint.specs.Lists.{any}
use Rattle.fixpoint.specs.Sets.{cut_to, others}
use Rattle.fixpoint.specs.Stages.{RoundsCounted}
use Rattle.fixpoint.proofs.Cuts.{cut_rounds, larger_of_cuts}
use Rattle.fixpoint.proofs.Lists.{by_test, bool_ext, any_ext, any_mono, any_kept, any_dropped}
use Rattle.fixpoint.proofs.Resting.{rounds_once}
use Rattle.fixpoint.proofs.Sets.{beq_equal, collect_ext}
use Rattle.cases.specs.Case.{Case, edge_is, shape_rule, references}
use Rattle.cases.specs.declared.command.Edge.{Edge}
use Rattle.semantics.specs.Groups.{joins, Apart, group_case, group_t, LargerRounds}
use Rattle.semantics.specs.Parking.{with_edges}
use Rattle.semantics.specs.Paths.{linked}
use Rattle.semantics.specs.Solving.{rounds, solved_values}
use Rattle.semantics.specs.Values.{pair_count, node_of}
use Rattle.semantics.proofs.AgreeingCases.{every, every_passes, AgreeingOn, next_alike, solved_values_agrees}
use Rattle.semantics.proofs.Kernel.{rule_system}
use Rattle.semantics.proofs.Pairs.{node_below}
use Rattle.semantics.proofs.Parking.{edge_operands}
use Rattle.semantics.proofs.Solved.{rounds_are_counted}

beq_not : (x y : Bool) → beq (not x) (not y) ≡ beq x y
beq_not true true = refl
beq_not true false = refl
beq_not false true = refl
beq_not false false = refl

-- the other group is apart as well
pub others_apart : (c : Case) (g : ℕ → Bool) → Apart c g → Apart c (others g)
unfolding joins
others_apart c g a = record { none_joins = any_ext c.edges _ _ (λ e. ap not (beq_not (g e.subject.0) (g e.object.0))) ∙ a.none_joins }

-- an empty group has one round: its cuts are empty from the first
pub empty_group_rounds : (c : Case) (g : ℕ → Bool) → ((a : ℕ) → a < c.nodes → g a ≡ false) → RoundsCounted (group_t c g) 1
unfolding group_t cut_to
empty_group_rounds c g none = record {
  i = 0;
  rounds_are = refl;
  next_equal = collect_ext (pair_count c) _ _ (λ k h. rw (none (node_of c k) (node_below c k h)) refl);
  first = λ j h e. absurd (omega arith);
}

-- ---- Lookups

-- exactly the group's edges are in its case, 02s and 03s alike
pub group_edges : (c : Case) (g : ℕ → Bool) (code p a b : ℕ) → any (group_case c g).edges (edge_is code p a b) ≡ g a && any c.edges (edge_is code p a b)
unfolding group_case with_edges
group_edges c g code p a b =
    let subject : (e : Edge) → edge_is code p a b e ≡ true → g e.subject.0 ≡ g a = λ e f. ap g (edge_operands code p a b e f).2 in
    by_test (g a)
    (λ h. rw h (any_kept c.edges _ _ (λ e f. subject e f ∙ h)))
    (λ h. rw h (any_dropped c.edges _ _ (λ e f. subject e f ∙ h)))

module _ (c : Case) (g : ℕ → Bool) (apart : Apart c g) where
  ends_alike : (code p a b : ℕ) → any c.edges (edge_is code p a b) ≡ true → g a ≡ g b
  unfolding joins
  ends_alike code p a b h =
      by_test (beq (g a) (g b))
      (λ e. beq_equal _ _ e)
      (λ e. absurd (false≢true (sym apart.none_joins ∙ any_mono c.edges _ (joins g)
      (λ x f. let o = edge_operands code p a b x f in rw (o.2, o.3, e) refl) h)))

  -- so an edge command with an end in the group is in both cases or in neither
  found_alike : (code p a b : ℕ) → (any c.edges (edge_is code p a b) ≡ true → g a ≡ true)
      → any c.edges (edge_is code p a b) ≡ any (group_case c g).edges (edge_is code p a b)
  found_alike code p a b f =
      let found : Bool = any c.edges (edge_is code p a b) in
      sym (group_edges c g code p a b ∙ bool_ext (g a && found) found (λ h. ((and-eq-true_iff (g a) found).0 h).1) (λ h. (and-eq-true_iff (g a) found).1 (f h, h)))

  linked_alike : (p a b : ℕ) → ((code : ℕ) → any c.edges (edge_is code p a b) ≡ true → g a ≡ true) → linked c p a b ≡ linked (group_case c g) p a b
  unfolding linked
  linked_alike p a b f = ap₂ (λ laid parked. laid && not parked) (found_alike 0x02 p a b (f 0x02)) (found_alike 0x03 p a b (f 0x03))

  agreeing : AgreeingOn c (group_case c g) every g
  unfolding group_case with_edges shape_rule linked
  agreeing = record {
    nodes = refl;
    paths = refl;
    shape_count = refl;
    linked_from = λ p a b h. linked_alike p a b (λ code f. h);
    linked_to = λ p a b h. linked_alike p a b (λ code f. ends_alike code p a b f ∙ h);
    ends = λ p a b h. ends_alike 0x02 p a b ((and-eq-true_iff (any c.edges (edge_is 0x02 p a b)) _).0 h).0;
    rules = λ s h e. refl;
    referred = λ s h e. every_passes (references (shape_rule c s));
  }

  -- ---- "the values .. of each group are those of the case with only that group's edges, read on that group's nodes"
  pub group_values : (k : ℕ) → g (node_of c k) ≡ true → get_or (solved_values c) k 0 ≡ get_or (solved_values (group_case c g)) k 0
  group_values k h = solved_values_agrees agreeing k h

-- ---- "The rounds of the whole are the larger of the two groups'"
pub larger_rounds : (c : Case) (g : ℕ → Bool) → Apart c g → LargerRounds c g (rounds c)
unfolding group_t group_case with_edges pair_count
larger_rounds c g apart =
    let ours = cut_rounds (pair_count c) (rule_system (group_case c g)) (λ k. g (node_of c k)) in
    let theirs = cut_rounds (pair_count c) (rule_system (group_case c (others g))) (λ k. others g (node_of c k)) in
    record {
      ours = ours.0;
      theirs = theirs.0;
      ours_counted = ours.1;
      theirs_counted = theirs.1;
      larger = rounds_once (rounds_are_counted c)
          (larger_of_cuts (pair_count c) (rule_system c)
          (next_alike (agreeing c g apart)) (next_alike (agreeing c (others g) (others_apart c g apart))) ours.1 theirs.1);
    }
