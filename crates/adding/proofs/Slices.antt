-- The case over the shapes that a target depends on: it is sound, and with every selection the target's solved value is that of the whole case.
--
-- The idea: references lead from these shapes to these alone, and links and paths are those of the case. So the two cases agree on these shapes and
-- every node, and solving gives the same there. Assumes nothing.
use Prim.Native.Nat.{ℕ, ◌+◌, ◌<◌}
use native.Mathlib.Omega.{arith}
use mathlib.Core.Path.{◌≡◌, refl, sym, ap, ◌∙◌}
use mathlib.Core.Bool.{Bool, true, ◌&&◌}
use mathlib.Core.List.{List}
use lib.ListN.{length, get_or}
use lib.Dec.{eqb, ltb}
use Rattle.std.specs.Prelude.{Option}
use Rattle.bitset.specs.Words.{bit}
use Rattle.cases.specs.Case.{Case, shape_rule, path_rule, paths_of_shape, references}
use Rattle.cases.specs.Faults.{shape_nodes_known, shape_paths_earlier, shape_least_positive}
use Rattle.cases.specs.Format.{edge_of, path_rule_of, target_of}
use Rattle.cases.specs.Rows.{edge_in, path_in, shape_in, target_in, case_in}
use Rattle.cases.specs.Sound.{Sound}
use Rattle.cases.specs.declared.command.ShapeRule.{ShapeRule}
use Rattle.cases.specs.declared.command.ShapeRule.TheVariants.{Top}
use Rattle.cases.specs.declared.command.Target.{Target}
use Rattle.cases.specs.declared.counts.Counts.{Counts}
use Rattle.cases.proofs.InRows.{nodes_in, shapes_in, shape_rule_in}
use Rattle.fixpoint.specs.Lists.{up_to, all}
use Rattle.fixpoint.proofs.Lists.{by_test, made_same, all_map, all_up_to_in, all_up_to_of}
use Rattle.references.specs.Reaching.{Reaches}
use Rattle.references.specs.Referring.{ShapesIn}
use Rattle.references.proofs.Shapes.{shapes_of}
use Rattle.semantics.specs.Adding.{chosen, chosen_count, with_links, key_count, key_size, key_selection}
use Rattle.semantics.specs.Parking.{with_edges}
use Rattle.semantics.specs.Paths.{linked}
use Rattle.semantics.specs.Solving.{solved_values}
use Rattle.semantics.specs.Values.{pair_of, shape_of}
use Rattle.semantics.proofs.AgreeingCases.{AgreeingOn, every, solved_values_agrees}
use Rattle.semantics.proofs.Pairs.{shape_of_pair}
use Rattle.settling.specs.Settled.{solved_at}
use Rattle.adding.specs.Deciding.{sure_over}
use Rattle.adding.specs.Searching.{Searchable, first_sure_below}
use Rattle.adding.specs.Slicing.{SlicedTo}
use Rattle.adding.proofs.Sliced.{sliced_full}

pub case_shapes : {counts : Counts} {pair : Target} {rows list : List ℕ} → Searchable counts pair rows list → ShapesIn counts rows
case_shapes {counts} {rows = rows} q = shapes_of q.case_in_holds.sound (shapes_in counts rows) (shape_rule_in counts rows) q.case_in_holds.fit.shapes_fit q.case_in_holds.full

module _ {counts : Counts} {pair : Target} {rows list : List ℕ} (q : Searchable counts pair rows list) {set : ℕ} {rows' : List ℕ}
    (v : SlicedTo counts.shapes set rows rows') where
  abbrev whole : Case
  whole = case_in counts rows

  abbrev slice : Case
  slice = case_in counts rows'

  same_edges : slice.edges ≡ whole.edges
  unfolding case_in edge_in
  same_edges = made_same (edge_in rows') (edge_in rows) counts.edges (λ i h. ap edge_of (v.before i (omega (arith, q.few_edges))))

  same_paths : slice.paths ≡ whole.paths
  unfolding case_in path_in
  same_paths = made_same (path_in rows') (path_in rows) counts.paths (λ p h. ap path_rule_of (v.before (1036 + p) (omega (arith, q.case_in_holds.fit.paths_fit))))

  same_targets : slice.targets ≡ whole.targets
  unfolding case_in target_in
  same_targets = made_same (target_in rows') (target_in rows) counts.targets (λ t h. ap target_of (v.after (1084 + t) (omega (arith, q.case_in_holds.fit.shapes_fit))))

  same_count : length slice.shapes ≡ length whole.shapes
  same_count = shapes_in counts rows' ∙ sym (shapes_in counts rows)

  -- what holds of every shape and of top holds of every shape of the slice
  all_sliced : (f : ShapeRule → Bool) → f Top ≡ true → all whole.shapes f ≡ true → all slice.shapes f ≡ true
  unfolding case_in
  all_sliced f top h =
      all_map (shape_in rows') (up_to counts.shapes) f
      ∙ all_up_to_of counts.shapes (λ s. f (shape_in rows' s))
      (λ s l. ap f (v.shapes s l)
      ∙ by_test (bit set s)
      (λ y. rw y (all_up_to_in counts.shapes (λ t. f (shape_in rows t)) (sym (all_map (shape_in rows) (up_to counts.shapes) f) ∙ h) s l))
      (λ n. rw n top))

  sound_slice : Sound slice
  unfolding case_in shape_nodes_known shape_paths_earlier paths_of_shape references all path_rule
  sound_slice =
      let s = q.case_in_holds.sound in
      record {
        edges_known = rw same_edges s.edges_known;
        shapes_known = all_sliced (shape_nodes_known counts.nodes) refl s.shapes_known;
        targets_known = rw same_targets s.targets_known;
        paths_earlier_holds = rw same_paths s.paths_earlier_holds;
        shapes_paths = rw same_paths (all_sliced (shape_paths_earlier (length whole.paths)) refl s.shapes_paths);
        least_positive_holds = all_sliced shape_least_positive refl s.least_positive_holds;
        shapes_named_holds = rw same_count (all_sliced (λ r. all (references r) (λ t. ltb t (length whole.shapes))) refl s.shapes_named_holds);
        targets_named = rw (same_count, same_targets) s.targets_named;
      }

  pub searchable_slice : Searchable counts pair rows' list
  unfolding case_in
  searchable_slice = record {
    case_in_holds = record { sound = sound_slice; fit = q.case_in_holds.fit; full = sliced_full q.case_in_holds.full v };
    few_edges = q.few_edges;
    short = q.short;
    known = q.known;
    shape_known = q.shape_known;
    node_known = q.node_known;
  }

  module _ (k : Reaches counts rows pair.shape.0 set) where
    shape_same : (s : ℕ) → s < counts.shapes → bit set s ≡ true → shape_rule whole s ≡ shape_rule slice s
    shape_same s h y = shape_rule_in counts rows s h ∙ sym (shape_rule_in counts rows' s h ∙ v.shapes s h ∙ rw y)

    agree_with : (selection : ℕ) → AgreeingOn (with_links whole (chosen list selection)) (with_links slice (chosen list selection)) (bit set) every
    unfolding with_links with_edges linked shape_rule
    agree_with selection =
        let below : (s : ℕ) → s < length whole.shapes → s < counts.shapes = λ s h. omega (arith, shapes_in counts rows) in
        record {
          nodes = nodes_in counts rows ∙ sym (nodes_in counts rows');
          paths = sym same_paths;
          shape_count = sym same_count;
          linked_from = λ p a b h. rw same_edges;
          linked_to = λ p a b h. rw same_edges;
          ends = λ p a b e. refl;
          rules = λ s h y. shape_same s (below s h) y;
          referred = λ s h y. rw (shape_rule_in counts rows s (below s h)) (k.closed s (below s h) y);
        }

    same_pair : (selection : ℕ) → pair_of (with_links slice (chosen list selection)) pair.shape.0 pair.node.0
        ≡ pair_of (with_links whole (chosen list selection)) pair.shape.0 pair.node.0
    unfolding pair_of with_links with_edges case_in
    same_pair selection = refl

    in_slice : (selection : ℕ) → let c = with_links whole (chosen list selection) in bit set (shape_of c (pair_of c pair.shape.0 pair.node.0)) ≡ true
    unfolding with_links with_edges case_in
    in_slice selection = rw (shape_of_pair (with_links whole (chosen list selection)) pair.shape.0 pair.node.0 q.node_known) k.itself

    same_value : (selection : ℕ) → solved_at (with_links slice (chosen list selection)) pair ≡ solved_at (with_links whole (chosen list selection)) pair
    same_value selection =
        ap (λ n. get_or (solved_values (with_links slice (chosen list selection))) n 0) (same_pair selection)
        ∙ sym (solved_values_agrees (agree_with selection) _ (rw (in_slice selection)))

    pub sliced_key : {r : Option ℕ} → r ≡ first_sure_below (key_count list) (sure_over slice pair list) → r ≡ first_sure_below (key_count list) (sure_over whole pair list)
    unfolding sure_over
    sliced_key e =
        e
        ∙ (λ i. first_sure_below (key_count list)
        (λ key. eqb (chosen_count list (key_selection list key)) (key_size list key) && eqb (same_value (key_selection list key) i) 2))
