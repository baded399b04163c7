-- Every case that reading gives is sound, the empty one that stands for a refusal too. Assumes nothing.
use Prim.Native.Nat.{ℕ, suc, ◌≤◌, ◌<◌}
use native.Mathlib.Omega.{arith}
use mathlib.Core.Path.{◌≡◌, refl, sym, ap, ◌∙◌}
use mathlib.Core.Logic.{⊎_elim}
use mathlib.Core.Bool.{Bool, true, ◌&&◌, false≢true, and-eq-true_iff, and-true}
use mathlib.Core.List.{List, [], ◌∷◌, ◌++◌}
use lib.ListN.{length, get_or, drop, length-append, get_or-append}
use lib.Seq.{get_or-append_seam}
use lib.Dec.{eqb, ltb}
use borrow.Author.Tests.{leb-true, eqb-true}
use Rattle.fixpoint.specs.Lists.{all}
use Rattle.fixpoint.proofs.Lists.{tests, lt_cases, all_append, all_map, all_mono, by_test}
use Rattle.cases.specs.declared.answers.Taken.{Taken}
use Rattle.cases.specs.declared.command.Edge.{Edge}
use Rattle.cases.specs.declared.command.Target.{Target}
use Rattle.cases.specs.declared.command.Command.{Command}
use Rattle.cases.specs.declared.command.Command.TheVariants.{Nodes, End}
use Rattle.cases.specs.declared.command.Command.TheVariants.{Edge as EdgeCommand, Path as PathCommand, Shape as ShapeCommand, Target as TargetCommand}
use Rattle.cases.specs.declared.command.PathRule.{PathRule}
use Rattle.cases.specs.declared.command.PathRule.TheVariants.{Union}
use Rattle.cases.specs.Case.{Case, empty_case, path_rule}
use Rattle.cases.specs.Counts.{is_profile, node_limit, edge_limit, path_limit, shape_limit, target_limit}
use Rattle.cases.specs.Faults.{in_order, shape_nodes_known, path_paths_earlier, shape_paths_earlier, shape_least_positive}
use Rattle.cases.specs.Parts.{Part, names, rules, fresh_rules, expansion}
use Rattle.cases.specs.Reading.{Note, Progress, start, counts_so_far, add, shapes_named, named_at, Entry, Shape, Other, pass}
use Rattle.cases.specs.Reading.{unknown_shape, after_end, refused, finish, walked, parts_of, expanded, profile_of, outcome}
use Rattle.cases.specs.Sound.{Sound, Limited}
use Rattle.cases.proofs.Expansion.{below, ruled, expansion_passes, expansion_below, length_expansion}
use Rattle.cases.proofs.Opening.{shape_sound, sound_blind}
use Rattle.cases.proofs.Steps.{of_group, CommandShows, EntryShows, Shows, profile_known, walked_keeps, Admitted}

-- ---- What a case keeps as it grows: refusals 4 to 7, list by list

-- a list within its limit, each of whose elements passes a test
pub record Kept {A : Type 0} (limit : ℕ) (t : A → Bool) (l : List A) : Type 0 where
  pub limited : length l ≤ limit
  pub passed : all l t ≡ true

module _ {A : Type 0} where
  all_snoc : (l : List A) (x : A) (t : A → Bool) → all l t ≡ true → t x ≡ true → all (l ++ (x ∷ [])) t ≡ true
  unfolding all
  all_snoc l x t h e = rw (all_append l (x ∷ []) t, h, e)

  all_and : (l : List A) (s t : A → Bool) → all l (λ x. s x && t x) ≡ true → (all l s ≡ true) × (all l t ≡ true)
  all_and l s t h = (
    all_mono l (λ x. s x && t x) s (λ x e. ((and-eq-true_iff (s x) (t x)).0 e).0) h,
    all_mono l (λ x. s x && t x) t (λ x e. ((and-eq-true_iff (s x) (t x)).0 e).1) h,
  )

  pub length_snoc : (l : List A) (x : A) → length (l ++ (x ∷ [])) ≡ suc (length l)
  length_snoc l x = length-append l (x ∷ []) ∙ omega arith

  kept_none : {limit : ℕ} {t : A → Bool} → Kept limit t []
  unfolding all
  kept_none = record { limited = omega arith; passed = refl }

  kept_more : {limit : ℕ} {t : A → Bool} {l : List A} (x : A) → Kept limit t l → ltb (length l) limit ≡ true → t x ≡ true → Kept limit t (l ++ (x ∷ []))
  kept_more {t} {l} x k room e = record { limited = omega (arith, tests, length_snoc l x); passed = all_snoc l x t k.passed e }

-- paths within their limit, each of whose operands stands before it
pub record PathsKept (l : List PathRule) : Type 0 where
  pub limited : length l ≤ path_limit
  pub earlier : (p : ℕ) → p < length l → path_paths_earlier p (get_or l p (Union (record { 0 = p }) (record { 0 = p }))) ≡ true

paths_more : (l : List PathRule) (r : PathRule) → PathsKept l → ltb (length l) path_limit ≡ true → path_paths_earlier (length l) r ≡ true → PathsKept (l ++ (r ∷ []))
paths_more l r k room e =
    record {
      limited = omega (arith, tests, length_snoc l r);
      earlier =
          λ p h.
          let d : PathRule = Union (record { 0 = p }) (record { 0 = p }) in
          ⊎_elim
          (λ b. rw (get_or-append l (r ∷ []) d p b) (k.earlier p b))
          (λ b. let q : p ≡ length l = omega (arith, length_snoc l r) in rw (ap (λ i. get_or (l ++ (r ∷ [])) i d) q ∙ get_or-append_seam l r [] d, q) e)
          (lt_cases p (length l));
    }

-- the tests of one edge and one target, against the number of nodes
unfoldable pub edge_sound : ℕ → Edge → Bool
edge_sound nodes e = ltb e.subject.0 nodes && ltb e.object.0 nodes

unfoldable pub target_sound : ℕ → Target → Bool
target_sound nodes t = ltb t.node.0 nodes

-- of what has been read: the shapes stand as parts, and with those that they make are within the limit
pub record CaseKept (profile : ℕ) (c : Case) (written : List Part) : Type 0 where
  pub nodes : c.nodes ≤ node_limit profile
  pub edges : Kept edge_limit (edge_sound c.nodes) c.edges
  pub paths : PathsKept c.paths
  pub shapes : all written (ruled (shape_sound c.nodes (length c.paths))) ≡ true
  pub few : length (expansion written) ≤ shape_limit profile
  pub targets : Kept target_limit (target_sound c.nodes) c.targets

-- while every list is empty, any number of nodes within the limit will do
unbegun_kept : (profile n : ℕ) → n ≤ node_limit profile → CaseKept profile (add empty_case (Nodes n)) []
unfolding add empty_case all expansion rules fresh_rules
unbegun_kept profile n h =
    record {
      nodes = h;
      edges = kept_none;
      paths = record { limited = omega arith; earlier = λ p h. absurd (omega arith) };
      shapes = refl;
      few = omega arith;
      targets = kept_none;
    }

-- ---- Refusal 9: the shape operands read so far

-- the shapes that written shapes and targets name are below n
pub record NamedBelow (n : ℕ) (p : Progress) : Type 0 where
  pub shapes : all p.written (λ x. below n (names x)) ≡ true
  pub targets : all p.case.targets (λ t. ltb t.shape.0 n) ≡ true

targets_named : (n : ℕ) (c : Case) (command : Command) → below n (shapes_named command) ≡ true → all c.targets (λ t. ltb t.shape.0 n) ≡ true
    → all (add c command).targets (λ t. ltb t.shape.0 n) ≡ true
unfolding shapes_named add all
targets_named n c (Nodes k) h o = o
targets_named n c (EdgeCommand e) h o = o
targets_named n c (PathCommand r) h o = o
targets_named n c (ShapeCommand r) h o = o
targets_named n c (TargetCommand t) h o = all_snoc c.targets t (λ t. ltb t.shape.0 n) o (sym (and-true (ltb t.shape.0 n)) ∙ h)
targets_named n c End h o = o

-- the same notes, tested
noted_below : (n at : ℕ) (old : List Note) (shapes : List ℕ) → all (old ++ named_at at shapes) (λ r. ltb r.shape n) ≡ true
    → (all old (λ r. ltb r.shape n) ≡ true) × (below n shapes ≡ true)
unfolding named_at
noted_below n at old shapes h =
    let t : Note → Bool = λ r. ltb r.shape n in
    let both = (and-eq-true_iff (all old t) (all (named_at at shapes) t)).0 (sym (all_append old (named_at at shapes) t) ∙ h) in
    (both.0, sym (all_map (λ s. record { shape = s; place = at }) shapes t) ∙ both.1)

named_more : (n : ℕ) (p : Progress) (at g : ℕ) (e : Entry) → ((n : ℕ) → all p.named (λ r. ltb r.shape n) ≡ true → NamedBelow n p)
    → all (pass p at g e).named (λ r. ltb r.shape n) ≡ true → NamedBelow n (pass p at g e)
unfolding pass
named_more n p at g (Shape x) k h =
    let both = noted_below n at p.named (names x) h in
    let o = k n both.0 in
    record { shapes = all_snoc p.written x (λ x. below n (names x)) o.shapes both.1; targets = o.targets }
named_more n p at g (Other command) k h =
    let both = noted_below n at p.named (shapes_named command) h in
    let o = k n both.0 in
    record { shapes = o.shapes; targets = targets_named n p.case command both.1 o.targets }

-- ---- What is promised of a case

pub record Fitting (profile : ℕ) (c : Case) : Type 0 where
  pub sound : Sound c
  pub limited : Limited profile c

-- of what has been read when reading ends: what it keeps, and that every shape operand names a written shape
record AllRead (profile : ℕ) (p : Progress) : Type 0 where
  known : is_profile profile ≡ true
  kept : CaseKept profile p.case p.written
  named : NamedBelow (length p.written) p

fitting : (profile : ℕ) (p : Progress) → AllRead profile p → Fitting profile (expanded p)
unfolding expanded edge_sound shape_sound target_sound path_rule
fitting profile p r =
    let k = r.kept in
    let o = r.named in
    let n = p.case.nodes in
    let m = length p.case.paths in
    let l = expansion p.written in
    let known = all_and l (shape_nodes_known n) (λ r. shape_paths_earlier m r && shape_least_positive r) (expansion_passes (sound_blind n m) p.written k.shapes) in
    let others = all_and l (shape_paths_earlier m) shape_least_positive known.1 in
    record {
      sound =
          record {
            edges_known = k.edges.passed;
            shapes_known = known.0;
            targets_known = k.targets.passed;
            paths_earlier_holds = k.paths.earlier;
            shapes_paths = others.0;
            least_positive_holds = others.1;
            shapes_named_holds = expansion_below p.written o.shapes;
            targets_named =
                all_mono p.case.targets (λ t. ltb t.shape.0 (length p.written)) (λ t. ltb t.shape.0 (length l))
                (λ t h. omega (arith, tests, length_expansion p.written)) o.targets;
          };
      limited =
          record {
            known = r.known;
            nodes_limited = k.nodes;
            edges_limited = k.edges.limited;
            paths_limited = k.paths.limited;
            shapes_limited = k.few;
            targets_limited = k.targets.limited;
          };
    }

-- ---- The invariant of the walk, and one command more

-- Two numbers are what others are tested against: of the nodes, and of the paths. The order lets the one change only while nothing else
-- has been read, and the other only while there are no shapes; so what was tested once stays so.
pub record SoundSoFar (p : Progress) : Type 0 where
  pub known : is_profile p.profile ≡ true
  pub kept : CaseKept p.profile p.case p.written
  pub named : (n : ℕ) → all p.named (λ r. ltb r.shape n) ≡ true → NamedBelow n p
  pub unbegun : p.last ≡ 0 → p.case ≡ empty_case
  pub unshaped : p.last ≤ 3 → p.written ≡ []

pub order_first : (last : ℕ) → in_order last 1 ≡ true → last ≡ 0
order_first last h = by_test (eqb last 0) (λ e. eqb-true last 0 e) (λ e. absurd (false≢true (rw e at h)))

order_ascends : (last g : ℕ) → in_order last g ≡ true → last ≤ g
order_ascends last g h =
    by_test (eqb last 0)
    (λ e. omega (arith, eqb-true))
    (λ e. by_test (eqb g 1) (λ f. absurd (false≢true (rw (e, f) at h))) (λ f. leb-true last g (rw (e, f) at h)))

command_kept : (p : Progress) (part : List ℕ) (g : ℕ) (command : Command) → SoundSoFar p → in_order p.last g ≡ true → CommandShows p part g command
    → CaseKept p.profile (add p.case command) p.written
unfolding counts_so_far of_group add edge_sound target_sound all
command_kept p part g (Nodes n) k order h =
    let first : p.last ≡ 0 = order_first p.last (rw (eqb-true g 1 h.grouped) at order) in
    rw (k.unbegun first, k.unshaped (omega arith)) (unbegun_kept p.profile n (leb-true n (node_limit p.profile) h.limit))
command_kept p part g (EdgeCommand e) k order h =
    let o = k.kept in
    record { nodes = o.nodes; edges = kept_more e o.edges h.limit h.nodes; paths = o.paths; shapes = o.shapes; few = o.few; targets = o.targets }
command_kept p part g (PathCommand r) k order h =
    let o = k.kept in
    let none = k.unshaped (omega (arith, eqb-true, order_ascends p.last g order)) in
    record {
      nodes = o.nodes;
      edges = o.edges;
      paths = paths_more p.case.paths r o.paths h.limit h.paths;
      shapes = rw none refl;
      few = o.few;
      targets = o.targets;
    }
command_kept p part g (ShapeCommand r) k order h =
    let o = k.kept in
    record { nodes = o.nodes; edges = o.edges; paths = o.paths; shapes = o.shapes; few = o.few; targets = o.targets }
command_kept p part g (TargetCommand t) k order h =
    let o = k.kept in
    record { nodes = o.nodes; edges = o.edges; paths = o.paths; shapes = o.shapes; few = o.few; targets = kept_more t o.targets h.limit h.nodes }
command_kept p part g End k order h = k.kept

entry_kept : (p : Progress) (part : List ℕ) (at g : ℕ) (e : Entry) → SoundSoFar p → in_order p.last g ≡ true → EntryShows p part g e → Admitted p e
    → CaseKept p.profile (pass p at g e).case (pass p at g e).written
unfolding pass EntryShows
entry_kept p part at g (Shape x) k order h admitted =
    let o = k.kept in
    record {
      nodes = o.nodes;
      edges = o.edges;
      paths = o.paths;
      shapes = all_snoc p.written x (ruled (shape_sound p.case.nodes (length p.case.paths))) o.shapes h.sound;
      few = leb-true (length (expansion (p.written ++ (x ∷ [])))) (shape_limit p.profile) admitted.room;
      targets = o.targets;
    }
entry_kept p part at g (Other command) k order h admitted = command_kept p part g command k order h

unshaped_pass : (p : Progress) (part : List ℕ) (at g : ℕ) (e : Entry) → SoundSoFar p → in_order p.last g ≡ true → EntryShows p part g e → g ≤ 3
    → (pass p at g e).written ≡ []
unfolding pass EntryShows
unshaped_pass p part at g (Shape x) k order h b = absurd (omega (arith, h.grouped))
unshaped_pass p part at g (Other command) k order h b = k.unshaped (omega (arith, order_ascends p.last g order))

pub profile_pass : (p : Progress) (at g : ℕ) (e : Entry) → (pass p at g e).profile ≡ p.profile
unfolding pass
profile_pass p at g (Shape x) = refl
profile_pass p at g (Other command) = refl

pub last_pass : (p : Progress) (at g : ℕ) (e : Entry) → (pass p at g e).last ≡ g
unfolding pass
last_pass p at g (Shape x) = refl
last_pass p at g (Other command) = refl

pub sound_pass : (s : List ℕ) (at : ℕ) (p : Progress) (e : Entry) (taken : Taken) → Shows p (drop at s) e taken → Admitted p e → SoundSoFar p
    → SoundSoFar (pass p at taken.group e)
sound_pass s at p e taken h admitted k =
    let g = taken.group in
    record {
      known = rw (profile_pass p at g e) k.known;
      kept = rw (profile_pass p at g e) (entry_kept p (drop at s) at g e k h.ordered h.entry admitted);
      named = λ n. named_more n p at g e k.named;
      unbegun = λ z. absurd (omega (arith, h.known, last_pass p at g e));
      unshaped = λ b. unshaped_pass p (drop at s) at g e k h.ordered h.entry (omega (arith, last_pass p at g e));
    }

-- ---- The walk: a refusal gives the empty case, and the end the case so far, all of whose shape operands are known by then

pub start_sound : (profile : ℕ) → is_profile profile ≡ true → SoundSoFar (start profile)
unfolding start empty_case add all
start_sound profile h =
    record {
      known = h;
      kept = unbegun_kept profile 0 (omega arith);
      named = λ n h. record { shapes = refl; targets = refl };
      unbegun = λ e. refl;
      unshaped = λ h. refl;
    }

unknown_shape_none : (n : ℕ) (l : List Note) → (unknown_shape n l).number ≡ 0 → all l (λ r. ltb r.shape n) ≡ true
unfolding unknown_shape all
unknown_shape_none n [] h = refl
unknown_shape_none n (r ∷ l) h =
    by_test (ltb r.shape n)
    (λ e. rw e (unknown_shape_none n l (rw e at h)))
    (λ e. absurd (let z : ◌≡◌ {A = ℕ} 9 0 = rw e at h in omega arith))

pub after_end_none : (s : List ℕ) (end : ℕ) (p : Progress) → (after_end s end p).number ≡ 0 → all p.named (λ r. ltb r.shape (length p.written)) ≡ true
unfolding after_end
after_end_none s end p h =
    by_test (ltb end (length s))
    (λ e. absurd (let z : ◌≡◌ {A = ℕ} 8 0 = rw e at h in omega arith))
    (λ e. unknown_shape_none (length p.written) p.named (rw e at h))

-- sound so far, under the input's profile
record SoundUnder (profile : ℕ) (p : Progress) : Type 0 where
  sound : SoundSoFar p
  under : p.profile ≡ profile

module _ (s : List ℕ) where
  -- nothing is left of a refused input, which is within the limits of every profile
  refused_read : AllRead (profile_of s) (start 0)
  unfolding start empty_case all
  refused_read =
      let known = profile_known s in
      record { known = known; kept = (start_sound (profile_of s) known).kept; named = record { shapes = refl; targets = refl } }

  finish_read : (end : ℕ) (p : Progress) → SoundUnder (profile_of s) p → AllRead (profile_of s) (finish s end p).read
  unfolding finish
  finish_read end p k =
      let o = k.sound in
      by_test (eqb (after_end s end p).number 0)
      (λ e. rw (e, ← k.under)
      (record { known = o.known; kept = o.kept; named = o.named (length p.written) (after_end_none s end p (eqb-true (after_end s end p).number 0 e)) }))
      (λ e. rw e refused_read)

  walked_read : AllRead (profile_of s) (walked s).read
  unfolding refused start
  walked_read =
      walked_keeps (SoundUnder (profile_of s)) (λ w. AllRead (profile_of s) w.read) s
      (λ n at h. refused_read) finish_read
      (λ at p e taken h r k. record { sound = sound_pass s at p e taken h r k.sound; under = profile_pass p at taken.group e ∙ k.under })
      (λ h. record { sound = start_sound (profile_of s) h; under = refl })

  outcome_fitting : Fitting (profile_of s) (outcome s).case
  unfolding outcome
  outcome_fitting = fitting (profile_of s) (walked s).read walked_read

-- "Operands and targets name written shapes only": the parts of a read input; a refused one has none
pub parts_known : (s : List ℕ) → all (parts_of s) (λ x. below (length (parts_of s)) (names x)) ≡ true
unfolding parts_of
parts_known s = (walked_read s).named.shapes

pub outcome_sound : (s : List ℕ) → Sound (outcome s).case
outcome_sound s = (outcome_fitting s).sound

pub outcome_limited : (s : List ℕ) → Limited (profile_of s) (outcome s).case
outcome_limited s = (outcome_fitting s).limited
