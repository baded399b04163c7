-- Cases that agree on some shapes and nodes: there they have the same fillers, rules that hold alike, and equal solved sets and values.
--
-- The idea: links lead from the nodes to such nodes only, so fillers of paths do; references lead from the shapes to such shapes only. So the
-- next set reads, at a pair of these shapes and nodes, only such pairs, and the sets that solving makes agree there from stage to stage.
-- Assumes nothing.
use Prim.Native.Nat.{ℕ, zero, suc, ◌*◌, ◌/◌, ◌%◌, ◌+◌, ◌<◌}
use native.Mathlib.Omega.{arith}
use mathlib.Core.Path.{◌≡◌, refl, sym, ap, ap₂, subst, ◌∙◌}
use mathlib.Core.Logic.{⊎_elim}
use mathlib.Core.Bool.{Bool, true, false, cond, ◌&&◌, ◌||◌, beq, false≢true, and-eq-true_iff}
use mathlib.Core.List.{List, map}
use lib.ListN.{length, get_or}
use lib.Dec.{ltb}
use borrow.Author.Tests.{ltb-true}
use Rattle.fixpoint.specs.Agreeing.{Agree, AlikeOn, AlikeFrom}
use Rattle.fixpoint.specs.Lists.{up_to, all, keep, count}
use Rattle.fixpoint.specs.Sets.{has, collect}
use Rattle.fixpoint.specs.Stages.{RuleSystem}
use Rattle.fixpoint.proofs.Agreeing.{lower_agrees_at_rest, upper_agrees_at_rest}
use Rattle.fixpoint.proofs.Lists.{or_cases, and_where, any_ext, any_up_to_in, all_in, all_of, all_map, count_map, map_where, made_at}
use Rattle.fixpoint.proofs.Reach.{reach_alike}
use Rattle.cases.specs.Case.{Case, path_rule, shape_rule, references}
use Rattle.cases.specs.declared.command.PathRule.{PathRule}
use Rattle.cases.specs.declared.command.PathRule.TheVariants.{Forward, Backward, Union, Sequence, Star}
use Rattle.cases.specs.declared.command.ShapeRule.{ShapeRule}
use Rattle.cases.specs.declared.command.ShapeRule.TheVariants.{Top, Node, And, Or, Not, Same, All, AtLeast}
use Rattle.semantics.specs.Paths.{live, linked, rule_fills, fills_within, fills, fillers, same_fillers}
use Rattle.semantics.specs.Solving.{solved_t, solved_p, values_of, solved_values}
use Rattle.semantics.specs.Stability.{holds, in_set, next_set}
use Rattle.semantics.specs.Values.{pair_count, pair_of, shape_of, node_of, rule_value}
use Rattle.semantics.proofs.Kernel.{fillers_pass, rule_system}
use Rattle.semantics.proofs.Pairs.{shape_below, node_below, shape_of_pair, node_of_pair, every_node_live}

-- the two cases agree on the shapes of w and the nodes of g
pub record AgreeingOn (c d : Case) (w g : ℕ → Bool) : Type 0 where
  pub nodes : c.nodes ≡ d.nodes
  pub paths : c.paths ≡ d.paths
  pub shape_count : length c.shapes ≡ length d.shapes
  -- lookups answer the same from and to a node of g, and a link has both ends in g or neither
  pub linked_from : (p a b : ℕ) → g a ≡ true → linked c p a b ≡ linked d p a b
  pub linked_to : (p a b : ℕ) → g b ≡ true → linked c p a b ≡ linked d p a b
  pub ends : (p a b : ℕ) → linked c p a b ≡ true → g a ≡ g b
  -- a shape of w has the same rule in both, and its references are in w
  pub rules : (s : ℕ) → s < length c.shapes → w s ≡ true → shape_rule c s ≡ shape_rule d s
  pub referred : (s : ℕ) → s < length c.shapes → w s ≡ true → all (references (shape_rule c s)) w ≡ true

-- every shape, or every node
abbrev pub every : ℕ → Bool
every k = true

pub every_passes : (l : List ℕ) → all l every ≡ true
every_passes l = all_of l every 0 (λ i h. refl)

-- the pairs of the shapes of w and the nodes of g
abbrev pub pairs_of : Case → (ℕ → Bool) → (ℕ → Bool) → ℕ → Bool
pairs_of c w g k = w (shape_of c k) && g (node_of c k)

-- ---- Rules, at a node where both cases have the same fillers

-- the node and its fillers pass the test, and the fillers are the same in both cases
pub record AlikeAt (c d : Case) (t : ℕ → Bool) (a : ℕ) : Type 0 where
  pub itself : t a ≡ true
  pub passing : (p : ℕ) → all (fillers c p a) t ≡ true
  pub lists : (p : ℕ) → fillers c p a ≡ fillers d p a
  pub sames : (p q : ℕ) → same_fillers c p q a ≡ same_fillers d p q a

module _ {c d : Case} {t : ℕ → Bool} {a : ℕ} (f : AlikeAt c d t a) where
  -- readers that agree where the test is passed read the same of the fillers
  map_alike : {B : Type 0} (u v : ℕ → B) (p : ℕ) → ((b : ℕ) → t b ≡ true → u b ≡ v b) → map u (fillers c p a) ≡ map v (fillers d p a)
  map_alike u v p e = map_where u v t (fillers c p a) (f.passing p) e ∙ ap (map v) (f.lists p)

  all_alike : (u v : ℕ → Bool) (p : ℕ) → ((b : ℕ) → t b ≡ true → u b ≡ v b) → all (fillers c p a) u ≡ all (fillers d p a) v
  all_alike u v p e = sym (all_map u (fillers c p a) (λ x. x)) ∙ ap (λ l. all l (λ x. x)) (map_alike u v p e) ∙ all_map v (fillers d p a) (λ x. x)

  count_alike : (u v : ℕ → Bool) (p : ℕ) → ((b : ℕ) → t b ≡ true → u b ≡ v b) → count (fillers c p a) u ≡ count (fillers d p a) v
  count_alike u v p e = sym (count_map u (fillers c p a) (λ x. x)) ∙ ap (λ l. count l (λ x. x)) (map_alike u v p e) ∙ count_map v (fillers d p a) (λ x. x)

  module _ {w : ℕ → Bool} where
    -- a rule whose references are in w has the same value where the values of shapes in w agree at nodes that pass
    pub value_alike : (u v : ℕ → ℕ → ℕ) (r : ShapeRule) → all (references r) w ≡ true → ((s b : ℕ) → w s ≡ true → t b ≡ true → u s b ≡ v s b)
        → rule_value c u r a ≡ rule_value d v r a
    unfolding rule_value references
    value_alike u v Top i e = refl
    value_alike u v (Node b) i e = refl
    value_alike u v (And x y) i e = rw (e x.0 a (all_in _ w i 0 0 (omega arith)) f.itself, e y.0 a (all_in _ w i 1 0 (omega arith)) f.itself)
    value_alike u v (Or x y) i e = rw (e x.0 a (all_in _ w i 0 0 (omega arith)) f.itself, e y.0 a (all_in _ w i 1 0 (omega arith)) f.itself)
    value_alike u v (Not x) i e = rw (e x.0 a (all_in _ w i 0 0 (omega arith)) f.itself)
    value_alike u v (Same p q) i e = rw (f.sames p.0 q.0)
    value_alike u v (All p x) i e = rw (map_alike (u x.0) (v x.0) p.0 (λ b. e x.0 b (all_in _ w i 0 0 (omega arith))))
    value_alike u v (AtLeast n p x) i e = rw (map_alike (u x.0) (v x.0) p.0 (λ b. e x.0 b (all_in _ w i 0 0 (omega arith))))

    -- and holds in both or in neither where the sets that are read agree there
    pub holds_alike : (Y Y' X X' : ℕ → ℕ → Bool) (r : ShapeRule) → all (references r) w ≡ true → ((s b : ℕ) → w s ≡ true → t b ≡ true → Y s b ≡ Y' s b)
        → ((s b : ℕ) → w s ≡ true → t b ≡ true → X s b ≡ X' s b) → holds c Y X r a ≡ holds d Y' X' r a
    unfolding holds references
    holds_alike Y Y' X X' Top i e h = refl
    holds_alike Y Y' X X' (Node b) i e h = refl
    holds_alike Y Y' X X' (And x y) i e h = rw (e x.0 a (all_in _ w i 0 0 (omega arith)) f.itself, e y.0 a (all_in _ w i 1 0 (omega arith)) f.itself)
    holds_alike Y Y' X X' (Or x y) i e h = rw (e x.0 a (all_in _ w i 0 0 (omega arith)) f.itself, e y.0 a (all_in _ w i 1 0 (omega arith)) f.itself)
    holds_alike Y Y' X X' (Not x) i e h = rw (h x.0 a (all_in _ w i 0 0 (omega arith)) f.itself)
    holds_alike Y Y' X X' (Same p q) i e h = f.sames p.0 q.0
    holds_alike Y Y' X X' (All p x) i e h = all_alike (Y x.0) (Y' x.0) p.0 (λ b. e x.0 b (all_in _ w i 0 0 (omega arith)))
    holds_alike Y Y' X X' (AtLeast n p x) i e h = rw (count_alike (Y x.0) (Y' x.0) p.0 (λ b. e x.0 b (all_in _ w i 0 0 (omega arith))))

module _ {c d : Case} {w g : ℕ → Bool} (on : AgreeingOn c d w g) where
  -- ---- Paths

  -- fillers of a rule's parts that agree from nodes of g and stay there give the rule such fillers
  rule_alike : {R R' : ℕ → ℕ → ℕ → Bool} → ((p : ℕ) → AlikeFrom g (R p) (R' p)) → (r : PathRule) → AlikeFrom g (rule_fills c R r) (rule_fills d R' r)
  unfolding rule_fills
  rule_alike f (Forward p) = record { answers = on.linked_from p.0; stays = λ a b h e. sym (on.ends p.0 a b e) ∙ h }
  rule_alike f (Backward p) = record { answers = λ a b. on.linked_to p.0 b a; stays = λ a b h e. on.ends p.0 b a e ∙ h }
  rule_alike {R} f (Union p q) = record {
    answers = λ a b h. ap₂ (λ x y. x || y) ((f p.0).answers a b h) ((f q.0).answers a b h);
    stays = λ a b h e. ⊎_elim ((f p.0).stays a b h) ((f q.0).stays a b h) (or_cases (R p.0 a b) (R q.0 a b) e);
  }
  rule_alike {R} {R'} f (Sequence p q) = record {
    answers = λ a b h.
        rw (← on.nodes)
        (any_ext (up_to c.nodes) _ _
        (λ m. and_where (R p.0 a m) (λ e. (f q.0).answers m b ((f p.0).stays a m h e)) ∙ ap (λ x. x && R' q.0 m b) ((f p.0).answers a m h)));
    stays = λ a b h e.
        let m = any_up_to_in c.nodes _ e in
        let both = (and-eq-true_iff (R p.0 a m.0) (R q.0 m.0 b)).0 m.2 in
        (f q.0).stays m.0 b ((f p.0).stays a m.0 h both.0) both.1;
  }
  rule_alike f (Star p) = rw (← on.nodes) (reach_alike c.nodes (f p.0))

  path_rule_lem : (p : ℕ) → path_rule c p ≡ path_rule d p
  unfolding path_rule
  path_rule_lem p = rw on.paths

  within_alike : (depth p : ℕ) → AlikeFrom g (fills_within c depth p) (fills_within d depth p)
  unfolding fills_within
  within_alike zero p = record { answers = λ a b h. refl; stays = λ a b h e. absurd (false≢true e) }
  within_alike (suc depth) p =
      subst (λ r. AlikeFrom g (rule_fills c (fills_within c depth) (path_rule c p)) (rule_fills d (fills_within d depth) r)) (path_rule_lem p)
      (rule_alike (within_alike depth) (path_rule c p))

  -- at a node of g a path has the same fillers in both, and each is in g
  pub fills_alike : (p : ℕ) → AlikeFrom g (fills c p) (fills d p)
  unfolding fills
  fills_alike p = within_alike (suc p) p

  pub fillers_alike : (p a : ℕ) → g a ≡ true → fillers c p a ≡ fillers d p a
  unfolding fillers
  fillers_alike p a h = λ i. keep (up_to (on.nodes i)) (λ b. (fills_alike p).answers a b h i)

  pub sames_alike : (p q a : ℕ) → g a ≡ true → same_fillers c p q a ≡ same_fillers d p q a
  unfolding same_fillers
  sames_alike p q a h = λ i. all (up_to (on.nodes i)) (λ b. beq ((fills_alike p).answers a b h i) ((fills_alike q).answers a b h i))

  -- so the laws of rules hold there, with every test that the nodes of g pass
  pub alike_at : {t : ℕ → Bool} → ((b : ℕ) → g b ≡ true → b < c.nodes → t b ≡ true) → (a : ℕ) → g a ≡ true → t a ≡ true → AlikeAt c d t a
  alike_at {t} each a h i = record {
    itself = i;
    passing = λ p. fillers_pass c p a t (λ b l e. each b ((fills_alike p).stays a b h e) l);
    lists = λ p. fillers_alike p a h;
    sames = λ p q. sames_alike p q a h;
  }

  -- ---- Sets of pairs

  pair_count_is : pair_count c ≡ pair_count d
  unfolding pair_count
  pair_count_is = ap₂ (λ s n. s * n) on.shape_count on.nodes

  shape_same : (k : ℕ) → shape_of c k ≡ shape_of d k
  unfolding shape_of
  shape_same k = ap (λ n. k / n) on.nodes

  node_same : (k : ℕ) → node_of c k ≡ node_of d k
  unfolding node_of
  node_same k = ap (λ n. k % n) on.nodes

  live_same : (k : ℕ) → live c (node_of c k) ≡ live d (node_of d k)
  unfolding live node_of
  live_same k = ap (λ n. ltb (k % n) n) on.nodes

  -- sets that agree at the pairs read the same at a shape of w and a live node of g
  abbrev live_in : ℕ → Bool
  live_in b = g b && live c b

  live_in_lem : (b : ℕ) → g b ≡ true → b < c.nodes → live_in b ≡ true
  live_in_lem b h l = (and-eq-true_iff (g b) (live c b)).1 (h, every_node_live c b l)

  read_same : {S S' : List Bool} → Agree (pairs_of c w g) S S' → (s b : ℕ) → w s ≡ true → live_in b ≡ true → in_set c S s b ≡ in_set d S' s b
  unfolding in_set pair_of live
  read_same {S' = S'} e s b hs h =
      let both = (and-eq-true_iff (g b) (live c b)).0 h in
      let l = ltb-true b c.nodes both.1 in
      e.on (pair_of c s b) (rw (shape_of_pair c s b l, node_of_pair c s b l, hs) both.0) ∙ ap (λ n. has S' (s * n + b)) on.nodes

  -- so the rule of a pair holds alike
  pair_holds : {X X' Y Y' : List Bool} → Agree (pairs_of c w g) X X' → Agree (pairs_of c w g) Y Y' → (k : ℕ) → pairs_of c w g k ≡ true → k < pair_count c
      → holds c (in_set c Y) (in_set c X) (shape_rule c (shape_of c k)) (node_of c k) ≡ holds d (in_set d Y') (in_set d X') (shape_rule d (shape_of d k)) (node_of d k)
  pair_holds {X} {X'} {Y} {Y'} x y k h l =
      let s = shape_of c k in
      let a = node_of c k in
      let both = (and-eq-true_iff (w s) (g a)).0 h in
      let here : AlikeAt c d live_in a = alike_at live_in_lem a both.1 (live_in_lem a both.1 (node_below c k l)) in
      rw (← shape_same k, ← node_same k, ← on.rules s (shape_below c k l) both.0)
      (holds_alike here (in_set c Y) (in_set d Y') (in_set c X) (in_set d X') (shape_rule c s) (on.referred s (shape_below c k l) both.0) (read_same y) (read_same x))

  pub next_alike : AlikeOn (pairs_of c w g) (next_set c) (next_set d)
  unfolding next_set has collect
  next_alike = record {
    next = λ x y. record {
      on = λ k h. rw (← pair_count_is) (made_at _ _ (pair_count c) k false (λ l. ap₂ (λ x y. x && y) (live_same k) (pair_holds x y k h l)));
    };
  }

  -- ---- What solving gives

  rule_system_there : RuleSystem (pair_count c) (next_set d)
  rule_system_there = rw pair_count_is (rule_system d)

  pub solved_t_agrees : Agree (pairs_of c w g) (solved_t c) (solved_t d)
  unfolding solved_t
  solved_t_agrees = rw (← pair_count_is) (lower_agrees_at_rest (pair_count c) next_alike (rule_system c) rule_system_there)

  pub solved_p_agrees : Agree (pairs_of c w g) (solved_p c) (solved_p d)
  unfolding solved_p
  solved_p_agrees = rw (← pair_count_is) (upper_agrees_at_rest (pair_count c) next_alike (rule_system c) rule_system_there)

  pub solved_values_agrees : (k : ℕ) → pairs_of c w g k ≡ true → get_or (solved_values c) k 0 ≡ get_or (solved_values d) k 0
  unfolding solved_values values_of
  solved_values_agrees k h =
      rw (← pair_count_is)
      (made_at _ _ (pair_count c) k 0 (λ l. ap₂ (λ t p. cond t 2 (cond p 1 0)) (solved_t_agrees.on k h) (solved_p_agrees.on k h)))
