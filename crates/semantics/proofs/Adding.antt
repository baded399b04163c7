-- Links to add: what added edges do to a lookup, paths that they do not touch, and the first key as the least selection. Document 02, point 10.
-- Assumes nothing.
use Prim.Native.Nat.{ℕ, zero, suc, ◌+◌, ◌*◌, ◌≤◌, ◌<◌}
use native.Mathlib.Nat.{div-add-mod', mod-lt}
use native.Mathlib.Omega.{arith}
use mathlib.Core.Path.{◌≡◌, refl, sym, ap, ◌∙◌}
use mathlib.Core.Logic.{⊎_elim, ◌↔◌}
use mathlib.Core.Bool.{Bool, true, false, cond, not, ◌&&◌, ◌||◌, false≢true, and-eq-true_iff, and_comm, or-false, or-true}
use mathlib.Core.List.{List, [], map, map-id, append-nil}
use lib.Arith.{digits_lt, digits_div, digits_mod}
use lib.Pow.{pow_pos}
use lib.ListN.{length, get_or, get_or-eq_default}
use lib.Dec.{eqb}
use borrow.Author.Tests.{eqb-true, eq-eqb}
use Rattle.fixpoint.specs.Lists.{up_to, any, all, keep, first_from}
use Rattle.fixpoint.specs.Sets.{has}
use Rattle.fixpoint.specs.Stages.{reach}
use Rattle.fixpoint.proofs.Lists.{by_test, and_where, lt_cases, or_right, any_append, all_append, any_map, all_map, all_of, all_mono, all_kept, any_ext, any_mono, any_kept, any_dropped}
use Rattle.fixpoint.proofs.Lists.{any_up_to_of, all_up_to_of, length_up_to, count_le_length, first_from_at_most, first_from_before}
use Rattle.cases.specs.Case.{Case, edge_is, path_rule}
use Rattle.cases.specs.Faults.{laid}
use Rattle.cases.specs.Sound.{Sound}
use Rattle.cases.specs.declared.command.Edge.{Edge}
use Rattle.cases.specs.declared.command.PathRule.{PathRule}
use Rattle.cases.specs.declared.command.PathRule.TheVariants.{Forward, Backward, Union, Sequence, Star}
use Rattle.semantics.specs.Adding.{candidate_at, candidate_count, chooses, chosen, chosen_count, unparked, with_links, verdict_with}
use Rattle.semantics.specs.Adding.{selection_count, key_size, key_selection, key_count, is_sure_by, fewest_key, candidate_known}
use Rattle.semantics.specs.Parking.{with_edges}
use Rattle.semantics.specs.Paths.{linked, rule_fills, fills_within, fills}
use Rattle.semantics.proofs.Parking.{edge_operands, any_laid}

-- ---- What added edges do to a lookup

-- an edge command has these operands
abbrev leads : ℕ → ℕ → ℕ → Edge → Bool
leads q a b e = eqb e.property.0 q && (eqb e.subject.0 a && eqb e.object.0 b)

-- one is an edge command of this byte with these operands, where each is an 02 if the edge is an added one
abbrev read_as : Case → ℕ → ℕ → ℕ → Bool → ℕ → Bool
read_as c q a b known code = any c.edges (λ e. eqb (cond known 0x02 e.code) code && leads q a b e)

module _ (c : Case) (added : List Edge) (q a b : ℕ) where
  laid_as : (e : Edge) → leads q a b e ≡ true → laid added e ≡ any added (edge_is 0x02 q a b)
  unfolding laid edge_is
  laid_as e h =
      let o = edge_operands e.code q a b e ((and-eq-true_iff (eqb e.code e.code) (leads q a b e)).1 (eq-eqb e.code e.code refl, h)) in
      rw (o.1, o.2, o.3)

  unparked_is : (code : ℕ) (e : Edge)
      → edge_is code q a b (unparked added e) ≡ eqb (cond (any added (edge_is 0x02 q a b)) 0x02 e.code) code && leads q a b e
  unfolding unparked edge_is
  unparked_is code e =
      let byte : Bool → Bool = λ known. eqb (cond known 0x02 e.code) code in
      let told : edge_is code q a b (unparked added e) ≡ byte (laid added e) && leads q a b e = by_test (laid added e) (λ l. rw l refl) (λ l. rw l refl) in
      told ∙ and_comm (byte (laid added e)) (leads q a b e)
      ∙ and_where (leads q a b e) (λ h. ap byte (laid_as e h))
      ∙ and_comm (leads q a b e) (byte (any added (edge_is 0x02 q a b)))

  edges_with : (code : ℕ) → any (with_links c added).edges (edge_is code q a b) ≡ read_as c q a b (any added (edge_is 0x02 q a b)) code || any added (edge_is code q a b)
  unfolding with_links with_edges
  edges_with code =
      any_append (map (unparked added) c.edges) added (edge_is code q a b)
      ∙ ap (λ x. x || any added (edge_is code q a b)) (any_map (unparked added) c.edges (edge_is code q a b) ∙ any_ext c.edges _ _ (unparked_is code))

  -- so where the edge is an added one nothing parks it, and else all edge commands with these operands are as they were
  lookup_with : (known : Bool) → (read_as c q a b known 0x02 || known) && not (read_as c q a b known 0x03 || false) ≡ (linked c q a b || known)
  unfolding linked edge_is
  lookup_with true =
      let never : Edge → Bool = λ e. false in
      let none : read_as c q a b true 0x03 ≡ false = sym (any_kept c.edges never never (λ e h. h)) ∙ any_dropped c.edges never never (λ e h. refl) in
      rw (or-true (read_as c q a b true 0x02), or-true (linked c q a b), none)
  lookup_with false = rw (or-false (read_as c q a b false 0x02), or-false (read_as c q a b false 0x03), or-false (linked c q a b))

-- an added edge is there, parked or not; every other link is as it was
pub linked_with : (c : Case) (added : List Edge) → all added (λ e. eqb e.code 0x02) ≡ true → (q a b : ℕ)
    → linked (with_links c added) q a b ≡ (linked c q a b || any added (edge_is 0x02 q a b))
unfolding linked
linked_with c added h q a b =
    rw (edges_with c added q a b 0x02, edges_with c added q a b 0x03, (any_laid added q a b h).1) (lookup_with c added q a b (any added (edge_is 0x02 q a b)))

-- ---- Selections

-- the numbers of the chosen candidates
abbrev picked : List ℕ → ℕ → List ℕ
picked list selection = keep (up_to (candidate_count list)) (chooses selection)

pub chosen_laid : (list : List ℕ) (selection : ℕ) → all (chosen list selection) (λ e. eqb e.code 0x02) ≡ true
unfolding chosen candidate_at
chosen_laid list selection = all_map (candidate_at list) (picked list selection) _ ∙ all_of (picked list selection) _ 0 (λ i h. refl)

pub chosen_known : (c : Case) (list : List ℕ) (selection : ℕ) → ((i : ℕ) → i < candidate_count list → candidate_known c (candidate_at list i) ≡ true)
    → all (chosen list selection) (candidate_known c) ≡ true
unfolding chosen
chosen_known c list selection known =
    all_map (candidate_at list) (picked list selection) (candidate_known c)
    ∙ all_kept (up_to (candidate_count list)) (chooses selection) _ (all_up_to_of (candidate_count list) _ known)

-- a candidate is an edge with its own operands
candidate_is : (list : List ℕ) (i : ℕ)
    → edge_is 0x02 (candidate_at list i).property.0 (candidate_at list i).subject.0 (candidate_at list i).object.0 (candidate_at list i) ≡ true
unfolding candidate_at edge_is
candidate_is list i =
    let itself : (n : ℕ) → eqb n n ≡ true = λ n. eq-eqb n n refl in
    rw (itself (candidate_at list i).property.0, itself (candidate_at list i).subject.0, itself (candidate_at list i).object.0) refl

-- and is among the added ones if it is chosen
chosen_there : (list : List ℕ) (selection i : ℕ) → i < candidate_count list → chooses selection i ≡ true
    → any (chosen list selection) (edge_is 0x02 (candidate_at list i).property.0 (candidate_at list i).subject.0 (candidate_at list i).object.0) ≡ true
unfolding chosen
chosen_there list selection i h e =
    let itself : ℕ → Bool = λ j. eqb j i in
    any_map (candidate_at list) (picked list selection) _
    ∙ any_mono (picked list selection) itself _ (λ j f. rw (eqb-true j i f) (candidate_is list i))
    (any_kept (up_to (candidate_count list)) (chooses selection) itself (λ j f. rw (eqb-true j i f) e)
    ∙ any_up_to_of (candidate_count list) itself i h (eq-eqb i i refl))

-- "a chosen one counts even if that edge is parked"
pub chosen_counts : (c : Case) (list : List ℕ) (selection i : ℕ) → i < candidate_count list → chooses selection i ≡ true
    → linked (with_links c (chosen list selection)) (candidate_at list i).property.0 (candidate_at list i).subject.0 (candidate_at list i).object.0 ≡ true
chosen_counts c list selection i h e =
    linked_with c (chosen list selection) (chosen_laid list selection) _ _ _
    ∙ or_right (linked c _ _ _) _ (chosen_there list selection i h e)

-- ---- The case with added edges is an ordinary case

pub sound_with : {c : Case} (added : List Edge) → Sound c → all added (candidate_known c) ≡ true → Sound (with_links c added)
unfolding with_links with_edges path_rule unparked
sound_with {c} added sound known =
    let kept : (e : Edge) → candidate_known c e ≡ true → candidate_known c (unparked added e) ≡ true =
    λ e h. by_test (laid added e) (λ l. rw l h) (λ l. rw l h) in
    record {
      edges_known =
          all_append (map (unparked added) c.edges) added (candidate_known c)
          ∙ (and-eq-true_iff (all (map (unparked added) c.edges) (candidate_known c)) (all added (candidate_known c))).1
          (all_map (unparked added) c.edges (candidate_known c) ∙ all_mono c.edges (candidate_known c) _ kept sound.edges_known, known);
      shapes_known = sound.shapes_known;
      targets_known = sound.targets_known;
      paths_earlier_holds = sound.paths_earlier_holds;
      shapes_paths = sound.shapes_paths;
      least_positive_holds = sound.least_positive_holds;
      shapes_named_holds = sound.shapes_named_holds;
      targets_named = sound.targets_named;
    }

pub no_links : (c : Case) → with_links c [] ≡ c
unfolding with_links with_edges unparked laid any
no_links c = ap (with_edges c) (append-nil (map (unparked []) c.edges) ∙ map-id c.edges)

-- ---- Paths that no added edge touches

-- the rule reads links of free properties alone, and its parts are in the set
unfoldable pub rule_spared : (ℕ → Bool) → (ℕ → Bool) → PathRule → Bool
rule_spared free U (Forward q) = free q.0
rule_spared free U (Backward q) = free q.0
rule_spared free U (Union p q) = U p.0 && U q.0
rule_spared free U (Sequence p q) = U p.0 && U q.0
rule_spared free U (Star p) = U p.0

-- the two cases have the same links of free properties, and the paths in the set are made of these
pub record Spared (c d : Case) (free U : ℕ → Bool) : Type 0 where
  pub nodes : c.nodes ≡ d.nodes
  pub paths : c.paths ≡ d.paths
  pub links : (q a b : ℕ) → free q ≡ true → linked c q a b ≡ linked d q a b
  pub each : (p : ℕ) → p < length c.paths → U p ≡ true → rule_spared free U (path_rule c p) ≡ true

-- a number not in the case has no fillers
no_fillers_beyond : (c : Case) (depth p a b : ℕ) → length c.paths ≤ p → fills_within c depth p a b ≡ false
unfolding fills_within rule_fills path_rule
no_fillers_beyond c zero p a b h = refl
no_fillers_beyond c (suc depth) p a b h =
    rw (get_or-eq_default c.paths (Union (record { 0 = p }) (record { 0 = p })) h, no_fillers_beyond c depth p a b h)

module _ {c d : Case} {free U : ℕ → Bool} (spared : Spared c d free U) where
  module _ {R R' : ℕ → ℕ → ℕ → Bool} (same : (p : ℕ) → U p ≡ true → (a b : ℕ) → R p a b ≡ R' p a b) where
    rule_spared_lem : (r : PathRule) → rule_spared free U r ≡ true → (a b : ℕ) → rule_fills c R r a b ≡ rule_fills d R' r a b
    unfolding rule_fills rule_spared
    rule_spared_lem (Forward q) h a b = spared.links q.0 a b h
    rule_spared_lem (Backward q) h a b = spared.links q.0 b a h
    rule_spared_lem (Union p q) h a b =
        let both = (and-eq-true_iff (U p.0) (U q.0)).0 h in
        λ i. same p.0 both.0 a b i || same q.0 both.1 a b i
    rule_spared_lem (Sequence p q) h a b =
        let both = (and-eq-true_iff (U p.0) (U q.0)).0 h in
        λ i. any (up_to (spared.nodes i)) (λ m. same p.0 both.0 a m i && same q.0 both.1 m b i)
    rule_spared_lem (Star p) h a b = λ i. has (reach (spared.nodes i) (λ x y. same p.0 h x y i) a) b

  within_spared : (depth p : ℕ) → U p ≡ true → (a b : ℕ) → fills_within c depth p a b ≡ fills_within d depth p a b
  unfolding fills_within path_rule
  within_spared zero p u a b = refl
  within_spared (suc depth) p u a b =
      ⊎_elim
      (λ h.
      rule_spared_lem (within_spared depth) (path_rule c p) (spared.each p h u) a b
      ∙ ap (λ l. rule_fills d (fills_within d depth) (get_or l p (Union (record { 0 = p }) (record { 0 = p }))) a b) spared.paths)
      (λ h. no_fillers_beyond c (suc depth) p a b h ∙ sym (no_fillers_beyond d (suc depth) p a b (rw (← spared.paths) h)))
      (lt_cases p (length c.paths))

  pub fills_spared : (p : ℕ) → U p ≡ true → (a b : ℕ) → fills c p a b ≡ fills d p a b
  unfolding fills
  fills_spared p u a b = within_spared (suc p) p u a b

-- ---- The first key

first_from_within : (f k : ℕ) (t : ℕ → Bool) → first_from f k t < k + f → t (first_from f k t) ≡ true
unfolding first_from
first_from_within zero k t h = absurd (omega arith)
first_from_within (suc f) k t h =
    by_test (t k)
    (λ e. rw (e, first_from) e)
    (λ e. let later : first_from f (suc k) t < k + suc f = rw (e, first_from) at h in rw (e, first_from) (first_from_within f (suc k) t (omega arith)))

-- the key of a selection
abbrev pub key_of : List ℕ → ℕ → ℕ
key_of list selection = chosen_count list selection * selection_count list + selection

module _ (list : List ℕ) (selection : ℕ) where
  pub chosen_at_most : chosen_count list selection ≤ candidate_count list
  unfolding chosen_count
  chosen_at_most = omega (arith, count_le_length (up_to (candidate_count list)) (chooses selection), length_up_to (candidate_count list))

  module _ (of_list : selection < selection_count list) where
    pub key_below : key_of list selection < key_count list
    key_below = digits_lt (omega (arith, chosen_at_most)) of_list

    pub key_size_lem : key_size list (key_of list selection) ≡ chosen_count list selection
    key_size_lem = digits_div (chosen_count list selection) of_list

    pub key_selection_lem : key_selection list (key_of list selection) ≡ selection
    key_selection_lem = digits_mod (chosen_count list selection) of_list

-- each key's selection is one of the list's
pub key_of_list : (list : List ℕ) (key : ℕ) → key_selection list key < selection_count list
key_of_list list key = mod-lt key (pow_pos (candidate_count list))

-- The order of keys is the order by size, then by number: a key that is not behind another has no larger size, and if the sizes are equal, no
-- larger selection.
size_order : (w size x n y : ℕ) → y < w → size * w + x ≤ n * w + y → size ≤ n
size_order w size x n y h le = ⊎_elim (λ l. absurd (omega (arith, digits_lt l h))) (λ l. l) (lt_cases n size)

-- what makes the target sure, as few and then as small as it can be
pub record LeastSure (c : Case) (target : ℕ) (list : List ℕ) (selection : ℕ) : Type 0 where
  pub of_list : selection < selection_count list
  pub sure : verdict_with c target list selection ≡ 2
  pub fewest : (other : ℕ) → other < selection_count list → verdict_with c target list other ≡ 2 → chosen_count list selection ≤ chosen_count list other
  pub smallest : (other : ℕ) → other < selection_count list → verdict_with c target list other ≡ 2 → chosen_count list other ≡ chosen_count list selection
      → selection ≤ other

module _ (c : Case) (target : ℕ) (list : List ℕ) where
  pub fewest_key_sure : fewest_key c target list < key_count list → is_sure_by c target list (fewest_key c target list) ≡ true
  unfolding fewest_key
  fewest_key_sure h = first_from_within (key_count list) 0 (is_sure_by c target list) (omega arith)

  pub fewest_key_first : (key : ℕ) → key < fewest_key c target list → is_sure_by c target list key ≡ false
  unfolding fewest_key
  fewest_key_first key h = first_from_before (key_count list) 0 (is_sure_by c target list) key (omega arith) h

  pub fewest_key_at_most : fewest_key c target list ≤ key_count list
  unfolding fewest_key
  fewest_key_at_most = omega (arith, first_from_at_most (key_count list) 0 (is_sure_by c target list))

  pub fewest_key_none : (fewest_key c target list ≡ key_count list) ↔ ((key : ℕ) → key < key_count list → is_sure_by c target list key ≡ false)
  fewest_key_none = (
    λ e key h. fewest_key_first key (omega arith),
    λ none. ⊎_elim
        (λ h. absurd (false≢true (sym (none (fewest_key c target list) h) ∙ fewest_key_sure h)))
        (λ h. omega (arith, fewest_key_at_most))
        (lt_cases (fewest_key c target list) (key_count list)),
  )

  -- a selection that makes the target sure has a key that is looked for
  pub key_sure : (selection : ℕ) → selection < selection_count list → verdict_with c target list selection ≡ 2 → is_sure_by c target list (key_of list selection) ≡ true
  unfolding is_sure_by
  key_sure selection h v =
      rw (key_size_lem list selection h, key_selection_lem list selection h, eq-eqb (chosen_count list selection) (chosen_count list selection) refl, v) refl

  -- so the first key is not behind it
  pub fewest_key_before : (selection : ℕ) → selection < selection_count list → verdict_with c target list selection ≡ 2 → fewest_key c target list ≤ key_of list selection
  fewest_key_before selection h v =
      ⊎_elim
      (λ b. absurd (false≢true (sym (fewest_key_first (key_of list selection) b) ∙ key_sure selection h v)))
      (λ b. b)
      (lt_cases (key_of list selection) (fewest_key c target list))

  -- and its selection is the least that makes the target sure
  pub fewest_key_least : fewest_key c target list < key_count list → LeastSure c target list (key_selection list (fewest_key c target list))
  unfolding is_sure_by
  fewest_key_least h =
      let key = fewest_key c target list in
      let selection = key_selection list key in
      let both = (and-eq-true_iff (eqb (chosen_count list selection) (key_size list key)) (eqb (verdict_with c target list selection) 2)).0 (fewest_key_sure h) in
      let size : chosen_count list selection ≡ key_size list key = eqb-true (chosen_count list selection) (key_size list key) both.0 in
      let whole : key_of list selection ≡ key = rw size (div-add-mod' key (selection_count list)) in
      record {
        of_list = key_of_list list key;
        sure = eqb-true (verdict_with c target list selection) 2 both.1;
        fewest = λ other l v.
            size_order (selection_count list) (chosen_count list selection) selection (chosen_count list other) other l (rw whole (fewest_key_before other l v));
        smallest = λ other l v e. let first : key_of list selection ≤ key_of list other = rw whole (fewest_key_before other l v) in omega (arith, rw e at first);
      }
