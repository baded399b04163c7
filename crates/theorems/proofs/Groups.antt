-- Two roads, one cabinet, over bytes: what solving writes at a group's pairs and targets, the rounds that it answers, and that inputs with only
-- a group's edges exist. Document 02, point 9. Assumes nothing.
use Prim.Native.Nat.{ℕ, ◌<◌}
use native.Mathlib.Omega.{arith}
use mathlib.Core.Path.{◌≡◌, refl, sym, ap, ◌∙◌}
use mathlib.Core.Bool.{Bool, true, and-eq-true_iff}
use mathlib.Core.List.{List, [], ◌∷◌, ◌++◌, append-nil}
use lib.ListN.{length, get_or}
use lib.Dec.{ltb}
use borrow.Author.Tests.{ltb-true}
use Rattle.fixpoint.specs.Lists.{all, keep}
use Rattle.fixpoint.specs.Sets.{others}
use Rattle.fixpoint.proofs.Lists.{get_d_map, by_test, all_in, keep_append, all_kept, any_kept, length_keep, count_le_length}
use Rattle.cases.specs.Case.{Case, path_rule}
use Rattle.cases.specs.Faults.{laid}
use Rattle.cases.specs.Reading.{Outcome, profile_of}
use Rattle.cases.specs.Sound.{recorded}
use Rattle.cases.specs.declared.command.Edge.{Edge}
use Rattle.encoding.specs.Encoding.{Writable, Readable}
use Rattle.encoding.proofs.Encoding.{outcome_one_byte, sound_exactly}
use Rattle.encoding.proofs.Recording.{recorded_at, outcome_recorded}
use Rattle.semantics.specs.Groups.{Apart, group_case, LargerRounds}
use Rattle.semantics.specs.Operations.{case_of, solve_answer}
use Rattle.semantics.specs.Parking.{with_edges}
use Rattle.semantics.specs.Solving.{solved_values}
use Rattle.semantics.specs.Values.{pair_count, pair_of, node_of}
use Rattle.semantics.proofs.Groups.{others_apart, group_values, larger_rounds}
use Rattle.semantics.proofs.Pairs.{pair_below, node_of_pair}
use Rattle.semantics.proofs.Parking.{edge_operands}
use Rattle.theorems.specs.Demands.{SolvedCase, pair_of_target}
use Rattle.theorems.specs.Groups.{ReadsGroup, node_of_target, WrittenAlike}
use Rattle.theorems.proofs.Demands.{case_sound, case_limited, solve_none, nowhere, value_at, target_value, rounds_answered}

-- ---- "the values and verdicts of each group are those of the case with only that group's edges, read on that group's nodes"

-- the node of a target's pair is the target's
node_of_target_lem : (s : List ℕ) (i : ℕ) → i < length (case_of s).targets → node_of (case_of s) (pair_of_target (case_of s) i) ≡ node_of_target (case_of s) i
node_of_target_lem s i h =
    let c = case_of s in
    rw (get_d_map (λ t. pair_of c t.shape.0 t.node.0) c.targets i nowhere 0 h, get_d_map (λ t. t.node.0) c.targets i nowhere 0 h)
    (node_of_pair c _ _ (ltb-true _ _ (all_in c.targets _ (case_sound s).targets_known i nowhere h)))

module _ (s : List ℕ) (g : ℕ → Bool) (own : List ℕ) (reads : ReadsGroup s g own) where
  own_pairs : pair_count (case_of own) ≡ pair_count (case_of s)
  unfolding pair_count group_case with_edges
  own_pairs = ap pair_count reads.only_its_edges

  own_pair : (shape a : ℕ) → pair_of (case_of own) shape a ≡ pair_of (case_of s) shape a
  unfolding pair_of group_case with_edges
  own_pair shape a = ap (λ (c : Case). pair_of c shape a) reads.only_its_edges

  own_targets : length (case_of own).targets ≡ length (case_of s).targets
  unfolding group_case with_edges
  own_targets = ap (λ (c : Case). length c.targets) reads.only_its_edges

  own_target : (i : ℕ) → pair_of_target (case_of own) i ≡ pair_of_target (case_of s) i
  unfolding pair_of group_case with_edges
  own_target i = ap (λ (c : Case). pair_of_target c i) reads.only_its_edges

  -- tables that are long enough for the whole are long enough for the group's case too
  pub own_solved : (v l d : List ℕ) → SolvedCase s v l d → SolvedCase own v l d
  own_solved v l d solved =
      let fit = (solve_none s v l d).0 solved.number_zero in
      record { number_zero = (solve_none own v l d).1 (rw (own_pairs, own_targets) (reads.own_reads, fit.1)) }

  module _ (apart : Apart (case_of s) g) {v l d v₁ l₁ d₁ : List ℕ} (whole : SolvedCase s v l d) (alone : SolvedCase own v₁ l₁ d₁) where
    same_value : (k : ℕ) → g (node_of (case_of s) k) ≡ true → get_or (solved_values (case_of s)) k 0 ≡ get_or (solved_values (case_of own)) k 0
    same_value k h = group_values (case_of s) g apart k h ∙ ap (λ (c : Case). get_or (solved_values c) k 0) (sym reads.only_its_edges)

    pub group_written_alike : WrittenAlike g s v l d own v₁ l₁ d₁
    group_written_alike = record {
      values = λ shape a i j h.
          let k = pair_of (case_of s) shape a in
          let below = pair_below (case_of s) shape a i j in
          sym (value_at s v l d whole k below)
          ∙ same_value k (rw (node_of_pair (case_of s) shape a j) h)
          ∙ rw (own_pair shape a) (value_at own v₁ l₁ d₁ alone k (rw own_pairs below));
      verdicts = λ i b h.
          sym (target_value s v l d whole i b)
          ∙ same_value (pair_of_target (case_of s) i) (rw (node_of_target_lem s i b) h)
          ∙ ap (λ (k : ℕ). get_or (solved_values (case_of own)) k 0) (sym (own_target i))
          ∙ target_value own v₁ l₁ d₁ alone i (rw own_targets b);
    }

-- both groups, each with its own case, and with the tables of the whole
pub each_group_written_alike : (s : List ℕ) (g : ℕ → Bool) → Apart (case_of s) g → (ours theirs : List ℕ) → ReadsGroup s g ours → ReadsGroup s (others g) theirs
    → (v l d : List ℕ) → SolvedCase s v l d → WrittenAlike g s v l d ours v l d × WrittenAlike (others g) s v l d theirs v l d
each_group_written_alike s g apart ours theirs r q v l d solved = (
  group_written_alike s g ours r apart solved (own_solved s g ours r v l d solved),
  group_written_alike s (others g) theirs q (others_apart (case_of s) g apart) solved (own_solved s (others g) theirs q v l d solved),
)

-- ---- "The rounds of the whole are the larger of the two groups'"
pub whole_rounds : (s : List ℕ) (g : ℕ → Bool) → Apart (case_of s) g → (v l d : List ℕ) → SolvedCase s v l d
    → LargerRounds (case_of s) g (solve_answer s v l d).rounds
whole_rounds s g apart v l d solved = rw (rounds_answered s v l d solved) (larger_rounds (case_of s) g apart)

-- ---- Such inputs exist

module _ (g : ℕ → Bool) where
  abbrev of_group : Edge → Bool
  of_group e = g e.subject.0

  -- a 03 that is kept stays behind its 02, which has the same subject
  laid_kept : (before : List Edge) (e : Edge) → of_group e ≡ true → laid (keep before of_group) e ≡ laid before e
  unfolding laid
  laid_kept before e h = any_kept before of_group _ (λ x f. ap g (edge_operands 0x02 _ _ _ x f).2 ∙ h)

  recorded_kept : (before l : List Edge) → recorded before l ≡ true → recorded (keep before of_group) (keep l of_group) ≡ true
  unfolding recorded recorded_at keep
  recorded_kept before [] h = refl
  recorded_kept before (e ∷ l) h =
      let both = (and-eq-true_iff (recorded_at before e) (recorded (before ++ (e ∷ [])) l)).0 h in
      let later = rw (keep_append before (e ∷ []) of_group) at (recorded_kept (before ++ (e ∷ [])) l both.1) in
      by_test (of_group e)
      (λ k. let here = rw k at later in rw (k, laid_kept before e k, both.0) here)
      (λ k. let here = rw (k, append-nil (keep before of_group)) at later in rw k here)

  group_writable : {profile : ℕ} {c : Case} → Writable profile c → Writable profile (group_case c g)
  unfolding group_case with_edges path_rule keep
  group_writable {profile} {c} w = record {
    sound = record {
      edges_known = all_kept c.edges of_group _ w.sound.edges_known;
      shapes_known = w.sound.shapes_known;
      targets_known = w.sound.targets_known;
      paths_earlier_holds = w.sound.paths_earlier_holds;
      shapes_paths = w.sound.shapes_paths;
      least_positive_holds = w.sound.least_positive_holds;
      shapes_named_holds = w.sound.shapes_named_holds;
      targets_named = w.sound.targets_named;
    };
    limited = record {
      known = w.limited.known;
      nodes_limited = w.limited.nodes_limited;
      edges_limited = omega (arith, length_keep c.edges of_group, count_le_length c.edges of_group, w.limited.edges_limited);
      paths_limited = w.limited.paths_limited;
      shapes_limited = w.limited.shapes_limited;
      targets_limited = w.limited.targets_limited;
    };
    one_byte = record {
      edges = all_kept c.edges of_group _ w.one_byte.edges;
      paths = w.one_byte.paths;
      shapes = w.one_byte.shapes;
    };
    recorded = record { edges_recorded = recorded_kept [] c.edges w.recorded.edges_recorded };
  }

  -- the group's case of an input that reads is again one that some bytes read as, under the same profile
  pub group_readable : (s : List ℕ) → all s (λ b. ltb b 256) ≡ true → Readable (profile_of s) (group_case (case_of s) g)
  unfolding case_of
  group_readable s bytes =
      (sound_exactly (profile_of s) _).0
      (group_writable (record { sound = case_sound s; limited = case_limited s; one_byte = outcome_one_byte s bytes; recorded = outcome_recorded s }))

  pub group_input : (s : List ℕ) (r : Readable (profile_of s) (group_case (case_of s) g)) → ReadsGroup s g r.bytes
  unfolding case_of
  group_input s r = record {
    own_reads = ap (λ (o : Outcome). o.refusal.number) r.reads;
    only_its_edges = ap (λ (o : Outcome). o.case) r.reads;
  }
