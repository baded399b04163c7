-- The samples of the table are proved, computed from bytes by the definitions of the entry points. Assumes nothing.
use Prim.Native.Nat.{ℕ, zero, suc, ◌<◌}
use native.Mathlib.Omega.{arith}
use mathlib.Core.Path.{◌≡◌, refl, sym, ap}
use mathlib.Core.Bool.{Bool, true, not, false≢true, and-eq-true_iff}
use mathlib.Core.List.{List, [], ◌∷◌, ◌++◌}
use lib.ListN.{get_or}
use lib.Dec.{eqb, leb, ltb}
use borrow.Author.Tests.{leb-true}
use Rattle.fixpoint.specs.Lists
use Rattle.fixpoint.specs.Sets
use Rattle.fixpoint.specs.Stages
use Rattle.cases.specs.Case
use Rattle.cases.specs.Counts
use Rattle.cases.specs.Format
use Rattle.cases.specs.Faults
use Rattle.cases.specs.Parts
use Rattle.cases.specs.Reading
use Rattle.semantics.specs.Paths
use Rattle.semantics.specs.Values
use Rattle.semantics.specs.Levels
use Rattle.semantics.specs.Stability
use Rattle.semantics.specs.Solving
use Rattle.semantics.specs.Denial
use Rattle.semantics.specs.Operations
use Rattle.semantics.specs.OldCode
use Rattle.semantics.specs.Parking
use Rattle.semantics.specs.Groups
use Rattle.theorems.specs.Samples.{OnlyStable, SplitsInto, AllPass, lent, small_level_bytes, after_solving, after_ranking}
use Rattle.theorems.specs.Samples.{ring, one_node, clash, not_itself_case, or_itself, two_paths, no_fillers, nested, parked, roads, road, vouched, starred_samples, requested_samples}

-- a value that is 2 exactly if it is not at least 1 is 1
only_one : (x : ℕ) → leb x 2 ≡ true → eqb x 2 ≡ not (leb 1 x) → x ≡ 1
only_one zero h e = absurd (false≢true e)
only_one (suc zero) h e = refl
only_one (suc (suc zero)) h e = absurd (false≢true (sym e))
only_one (suc (suc (suc x))) h e = absurd (omega (arith, leb-true (suc (suc (suc x))) 2 h))

one_pair : (v w : List ℕ) → get_or v 0 0 ≡ get_or w 0 0 → (k : ℕ) → k < 1 → get_or v k 0 ≡ get_or w k 0
one_pair v w e zero h = e
one_pair v w e (suc k) h = absurd (omega arith)

-- All but three compute. The shape that is not itself: T = C(P) says that its pair is valid exactly if it isn't possible. The ring's proposal:
-- C(P) has not node 2 as Linked, which is pair 14. The two roads: T1 of the first has pair 12, which T0 has not.
samples : AllPass starred_samples × AllPass requested_samples
unfolding starred_samples requested_samples ring vouched one_node clash not_itself_case or_itself two_paths no_fillers nested parked roads road lent small_level_bytes after_solving after_ranking
    Lists.from Lists.up_to Lists.any Lists.all Lists.keep Lists.count Lists.largest Lists.insert Lists.sort Lists.nth_smallest
    Lists.nth_largest Lists.first_from Stages.first_rest
    Sets.has Sets.collect Sets.none Sets.same
    Stages.stage Stages.least Stages.first_step Stages.reach Stages.closure Stages.lower Stages.upper Stages.rest
    Counts.node_limit Counts.shape_limit Case.empty_case Case.counts_of Case.edge_is Case.path_rule Case.shape_rule Case.paths_of_path Case.paths_of_shape Case.references
    Format.format_of Format.width_of Format.taken_of Format.number_at Format.row_of Format.complete Format.operands_by Format.path_rule_of Format.shape_rule_of
    Format.command_of Format.command_at
    Faults.laid Faults.path_paths_earlier Faults.shape_paths_earlier Reading.judged Faults.shape_nodes_known Reading.step_at Reading.start Reading.add
    Reading.shapes_named Reading.named_at Reading.pass Reading.unknown_shape Reading.after_end Reading.finish Reading.stepped Reading.walk
    Reading.counts_so_far Reading.nested_found Reading.roomy_found Reading.found_at Reading.heading_of Reading.walked_from Reading.walked Reading.expanded Reading.outcome
    Parts.part_format_of Parts.opening Parts.rule_head Parts.at_most_head Parts.whole_head Parts.head_by Parts.head_at Parts.and_then Parts.opened Parts.part_at
    Parts.names Parts.filled Parts.size Parts.inner_size Parts.operand Parts.rule Parts.fresh Parts.inside Parts.rules Parts.fresh_rules Parts.expansion
    Paths.live Paths.linked Paths.rule_fills Paths.fills_within Paths.fills Paths.fillers
    Values.pair_count Values.pair_of Values.shape_of Values.node_of Values.entry_at Values.byte_says Values.is_value Values.valued Values.rule_value
    Values.pair_value Values.supported_at
    Levels.rule_support Levels.pair_support Levels.justified_at
    Stability.holds Stability.in_set Stability.next_set Stability.valid_set Stability.possible_set
    Solving.solved_t Solving.solved_p Solving.rounds Solving.values_of Solving.solved_values Solving.greatest_level Solving.levels_of
    Solving.solved_levels Solving.target_values Solving.verdicts
    Denial.nots Denial.refers Denial.own_denial
    Operations.or_else Operations.first_of Operations.refuse_unless Operations.refuse Operations.too_short Operations.counted Operations.written
    Operations.tally Operations.level_bytes Operations.levels_in Operations.case_of Operations.solve_refusal Operations.solve_fault Operations.solve_answer Operations.solution
    Operations.solve_values Operations.solve_levels Operations.solve_verdicts
    Operations.check_refusal Operations.check_fault Operations.value_fault Operations.pair_fault Operations.check_answer Operations.checked
    Parking.with_edges Groups.joins Groups.group_case Groups.group_t Sets.cut_to
    OldCode.old_fault OldCode.old_refusal OldCode.old_answer
    Operations.rank_refusal Operations.rank_fault Operations.denial_fault Operations.rank_answer Operations.ranked Operations.rank_strata
samples = (
  (refl, (refl, (refl, (refl, (refl, (refl, (refl, (not_itself, (refl, (refl, (refl, tt))))))))))),
  (refl, (λ st. false≢true (sym (ap (λ (S : List Bool). Sets.has S 14) st.closed.lower_closed)), (refl, (refl, (refl, (refl, (refl, (refl, (two_roads, tt))))))))),
)
  where
    not_itself : OnlyStable not_itself_case (1 ∷ [])
    not_itself =
        record {
          is_stable = record { values = refl; closed = record { lower_closed = refl; upper_closed = refl } };
          no_other = λ v st.
              one_pair v (1 ∷ [])
              (only_one (get_or v 0 0)
              ((and-eq-true_iff (leb (get_or v 0 0) 2) true).0 st.values).0
              (ap (λ (S : List Bool). Sets.has S 0) st.closed.lower_closed));
        }

    first_road : (j : ℕ) → j < 1 → Groups.group_t (Operations.case_of (roads (road 0 ++ road 2))) (λ a. ltb a 2) (suc j)
        ≡ Groups.group_t (Operations.case_of (roads (road 0 ++ road 2))) (λ a. ltb a 2) j → ⊥
    first_road zero h e = false≢true (sym (ap (λ (S : List Bool). Sets.has S 12) e))
    first_road (suc j) h e = absurd (omega arith)

    two_roads : SplitsInto (roads (road 0 ++ road 2)) (λ a. ltb a 2) (roads (road 0)) (roads (road 2)) 2 1
    two_roads =
        record {
          apart = record { none_joins = refl };
          reads_ours = record { own_reads = refl; only_its_edges = refl };
          reads_theirs = record { own_reads = refl; only_its_edges = refl };
          ours_counted = record { i = 1; rounds_are = refl; next_equal = refl; first = first_road };
          theirs_counted = record { i = 0; rounds_are = refl; next_equal = refl; first = λ j h e. absurd (omega arith) };
        }

pub starred_samples_lem : AllPass starred_samples
starred_samples_lem = samples.0

pub requested_samples_lem : AllPass requested_samples
requested_samples_lem = samples.1
