-- Every shape of an expansion, written or fresh, has the value that its part's own words give it, in every supported assignment; and one in
-- which every shape has it is supported. Document 02, point 2, and document 000, proposition 4.2.
--
-- The idea: in a supported assignment each fresh shape has its rule's value, so the operand that stands for an inner part has that part's
-- value, by induction on the part; and back. Assumes nothing.
use Prim.Native.Nat.{ℕ, zero, suc, ◌+◌, ◌<◌, max}
use native.Mathlib.Omega.{arith}
use mathlib.Core.Path.{◌≡◌, refl, sym, ap, ◌∙◌, subst}
use mathlib.Core.Logic.{◌↔◌}
use mathlib.Core.Bool.{Bool, true, cond, and-eq-true_iff}
use mathlib.Core.List.{List, [], ◌∷◌, ◌++◌}
use lib.ListN.{length, get_or, length-append, get_or-append}
use lib.Seq.{get_or-append-add}
use lib.Dec.{eqb, ltb}
use borrow.Author.Tests.{eqb-true, eq-eqb, lt-ltb, ltb-true}
use Rattle.fixpoint.specs.Lists.{up_to, any, all}
use Rattle.fixpoint.proofs.Lists.{any_of, all_of, all_up_to_of, all_up_to_in}
use Rattle.cases.specs.declared.command.ShapeRule.{ShapeRule}
use Rattle.cases.specs.declared.command.ShapeRule.TheVariants.{Top, Node, And, Or, Not, Same, All, AtLeast}
use Rattle.cases.specs.Case.{Case, shape_rule, references}
use Rattle.cases.specs.Parts.{Part, Named, Plain, Around, Joining, filled, size, inner_size, operand, rule, fresh, inside}
use Rattle.cases.specs.Parts.{rules, fresh_rules, fresh_count, expansion}
use Rattle.cases.proofs.Expansion.{length_fresh, length_inside, length_rules}
use Rattle.semantics.specs.Nested.{part_value, opens, opens_inside, deeper}
use Rattle.semantics.specs.Values.{pair_count, pair_of, shape_of, node_of, entry_at, rule_value, pair_value, valued, supported_at, supported}
use Rattle.semantics.proofs.AgreeingCases.{AlikeAt, value_alike}
use Rattle.semantics.proofs.Kernel.{fillers_pass}
use Rattle.semantics.proofs.Pairs.{pair_below, shape_below, node_below, pair_of_parts, shape_of_pair, node_of_pair, every_pair_by_its_rule}

-- ---- As many parts open as there are fresh shapes

pub length_opens : (x : Part) → length (opens x) ≡ size x
unfolding opens size
length_opens (Named s) = refl
length_opens (Plain r) = refl
length_opens (Around r x) = ap suc (length_opens x)
length_opens (Joining r x y) = ap suc (length-append (opens x) (opens y) ∙ rw (length_opens x, length_opens y))

pub length_opens_inside : (x : Part) → length (opens_inside x) ≡ inner_size x
unfolding opens_inside inner_size
length_opens_inside (Named s) = refl
length_opens_inside (Plain r) = refl
length_opens_inside (Around r x) = length_opens x
length_opens_inside (Joining r x y) = length-append (opens x) (opens y) ∙ rw (length_opens x, length_opens y)

pub length_deeper : (l : List Part) → length (deeper l) ≡ fresh_count l
unfolding deeper fresh_count
length_deeper [] = refl
length_deeper (x ∷ l) = length-append (opens_inside x) (deeper l) ∙ rw (length_opens_inside x, length_deeper l)

-- ---- What a rule's value depends on

max_same : (x : ℕ) → max x x ≡ x
max_same x = omega arith

-- each number of a list is in it
each_itself : (l : List ℕ) → all l (λ s. any l (λ t. eqb t s)) ≡ true
each_itself l = all_of l _ 0 (λ i h. any_of l _ i 0 h (eq-eqb (get_or l i 0) (get_or l i 0) refl))

module _ (c : Case) where
  -- a rule has the same value where its references have the same values at every node: fillers are nodes
  pub rule_agrees : (u v : ℕ → ℕ → ℕ) (r : ShapeRule) (a : ℕ) → a < c.nodes
      → ((s b : ℕ) → any (references r) (λ t. eqb t s) ≡ true → b < c.nodes → u s b ≡ v s b) → rule_value c u r a ≡ rule_value c v r a
  rule_agrees u v r a h e =
      let node : ℕ → Bool = λ b. ltb b c.nodes in
      let here : AlikeAt c c node a = record {
        itself = lt-ltb a c.nodes h;
        passing = λ p. fillers_pass c p a node (λ b l k. lt-ltb b c.nodes l);
        lists = λ p. refl;
        sames = λ p q. refl;
      } in
      value_alike here u v r (each_itself (references r)) (λ s b i l. e s b i (ltb-true b c.nodes l))

  -- with other shape operands it has the value that it has where these have the operands' values: one for all, or two
  filled_with : (v : ℕ → ℕ → ℕ) (r : ShapeRule) (s a : ℕ) → rule_value c v (filled r s s) a ≡ rule_value c (λ _ b. v s b) r a
  unfolding rule_value filled
  filled_with v Top s a = refl
  filled_with v (Node b) s a = refl
  filled_with v (And _ _) s a = refl
  filled_with v (Or _ _) s a = refl
  filled_with v (Not _) s a = refl
  filled_with v (Same p q) s a = refl
  filled_with v (All p _) s a = refl
  filled_with v (AtLeast n p _) s a = refl

  filled_with_two : (v : ℕ → ℕ → ℕ) (r : ShapeRule) (s t a : ℕ)
      → rule_value c v (filled r s t) a ≡ rule_value c (λ q b. cond (eqb q 0) (v s b) (v t b)) (filled r 0 1) a
  unfolding rule_value filled
  filled_with_two v Top s t a = refl
  filled_with_two v (Node b) s t a = refl
  filled_with_two v (And _ _) s t a = refl
  filled_with_two v (Or _ _) s t a = refl
  filled_with_two v (Not _) s t a = refl
  filled_with_two v (Same p q) s t a = refl
  filled_with_two v (All p _) s t a = refl
  filled_with_two v (AtLeast n p _) s t a = refl

  module _ (v : ℕ → ℕ → ℕ) where
    module _ {A : Type 0} (m : A → ℕ → ℕ) where
      -- the shapes numbered from base on have the values that m gives to these, rules or parts
      record Obeys (base : ℕ) (l : List A) : Type 0 where
        obeys : (j b : ℕ) (d : A) → j < length l → b < c.nodes → v (base + j) b ≡ m (get_or l j d) b

      obeys_none : {base : ℕ} → Obeys base []
      obeys_none = record { obeys = λ j b d h k. absurd (omega arith) }

      obeys_first : {base : ℕ} {x : A} {l : List A} → Obeys base (x ∷ l) → (b : ℕ) → b < c.nodes → v base b ≡ m x b
      obeys_first {base} {x} o b k = let e : base + 0 ≡ base = omega arith in rw e at (o.obeys 0 b x (omega arith) k)

      obeys_rest : {base : ℕ} {x : A} {l : List A} → Obeys base (x ∷ l) → Obeys (suc base) l
      obeys_rest {base} o = record { obeys = λ j b d h k. let e : base + suc j ≡ suc base + j = omega arith in rw e at (o.obeys (suc j) b d (omega arith) k) }

      obeys_more : {base : ℕ} {x : A} {l : List A} → ((b : ℕ) → b < c.nodes → v base b ≡ m x b) → Obeys (suc base) l → Obeys base (x ∷ l)
      obeys_more {base} {x} {l} f o = record { obeys = each }
        where
          each : (j b : ℕ) (d : A) → j < suc (length l) → b < c.nodes → v (base + j) b ≡ m (get_or (x ∷ l) j d) b
          each zero b d h k = let e : base + 0 ≡ base = omega arith in rw e (f b k)
          each (suc j) b d h k = let e : base + suc j ≡ suc base + j = omega arith in rw e (o.obeys j b d (omega arith) k)

      obeys_left : {base : ℕ} (l r : List A) → Obeys base (l ++ r) → Obeys base l
      obeys_left [] r o = obeys_none
      obeys_left (x ∷ l) r o = obeys_more (obeys_first o) (obeys_left l r (obeys_rest o))

      obeys_right : {base : ℕ} (l r : List A) → Obeys base (l ++ r) → Obeys (base + length l) r
      obeys_right {base} [] r o = let e : base + 0 ≡ base = omega arith in rw e o
      obeys_right {base} (x ∷ l) r o = let e : base + suc (length l) ≡ suc base + length l = omega arith in rw e (obeys_right l r (obeys_rest o))

      obeys_append : {base : ℕ} (l r : List A) → Obeys base l → Obeys (base + length l) r → Obeys base (l ++ r)
      obeys_append {base} [] r o p = let e : base + 0 ≡ base = omega arith in rw e at p
      obeys_append {base} (x ∷ l) r o p =
          let e : base + suc (length l) ≡ suc base + length l = omega arith in
          obeys_more (obeys_first o) (obeys_append l r (obeys_rest o) (rw e at p))

    -- the values of rules, and those that the words of parts give
    abbrev ByRules : ℕ → List ShapeRule → Type 0
    ByRules base l = Obeys (rule_value c v) base l

    abbrev AsSaid : ℕ → List Part → Type 0
    AsSaid base l = Obeys (part_value c v) base l

    -- shapes obey rules exactly where they obey parts: none; one more, if its rule has its part's value where the others obey; two lists joined
    none_alike : {base : ℕ} → ByRules base [] ↔ AsSaid base []
    none_alike = (λ o. obeys_none (part_value c v), λ o. obeys_none (rule_value c v))

    more_alike : {base : ℕ} {r : ShapeRule} {x : Part} {l : List ShapeRule} {k : List Part}
        → (AsSaid (suc base) k → (b : ℕ) → b < c.nodes → rule_value c v r b ≡ part_value c v x b)
        → ByRules (suc base) l ↔ AsSaid (suc base) k → ByRules base (r ∷ l) ↔ AsSaid base (x ∷ k)
    more_alike e f = (
      λ o. let p = f.0 (obeys_rest (rule_value c v) o) in obeys_more (part_value c v) (λ b h. obeys_first (rule_value c v) o b h ∙ e p b h) p,
      λ o. let p = obeys_rest (part_value c v) o in obeys_more (rule_value c v) (λ b h. obeys_first (part_value c v) o b h ∙ sym (e p b h)) (f.1 p),
    )

    append_alike : {base n : ℕ} (l l' : List ShapeRule) (k k' : List Part) → length l ≡ n → length k ≡ n
        → (AsSaid (base + n) k' → ByRules base l ↔ AsSaid base k) → ByRules (base + n) l' ↔ AsSaid (base + n) k'
        → ByRules base (l ++ l') ↔ AsSaid base (k ++ k')
    append_alike l l' k k' el ek f g = (
      λ o.
          let p = g.0 (rw el at (obeys_right (rule_value c v) l l' o)) in
          obeys_append (part_value c v) k k' ((f p).0 (obeys_left (rule_value c v) l l' o)) (rw ek p),
      λ o.
          let p = rw ek at (obeys_right (part_value c v) k k' o) in
          obeys_append (rule_value c v) l l' ((f p).1 (obeys_left (part_value c v) k k' o)) (rw el (g.1 p)),
    )

    -- a named shape's rule, and one with no inner part, have the value of their part
    named_means : (s a : ℕ) → rule_value c v (Or (record { 0 = s }) (record { 0 = s })) a ≡ part_value c v (Named s) a
    unfolding rule_value part_value
    named_means s a = max_same (v s a)

    plain_means : (r : ShapeRule) (a : ℕ) → rule_value c v r a ≡ part_value c v (Plain r) a
    unfolding part_value
    plain_means r a = refl

    -- a rule around an inner part, and one that joins two, have the value of their part if the operands have theirs
    around_means : (r : ShapeRule) (x : Part) (s a : ℕ) → a < c.nodes → ((b : ℕ) → b < c.nodes → v s b ≡ part_value c v x b)
        → rule_value c v (filled r s s) a ≡ part_value c v (Around r x) a
    unfolding part_value
    around_means r x s a h i = filled_with v r s a ∙ rule_agrees (λ _ b. v s b) (λ _ b. part_value c v x b) r a h (λ _ b _. i b)

    joining_means : (r : ShapeRule) (x y : Part) (s t a : ℕ) → a < c.nodes
        → ((b : ℕ) → b < c.nodes → v s b ≡ part_value c v x b) → ((b : ℕ) → b < c.nodes → v t b ≡ part_value c v y b)
        → rule_value c v (filled r s t) a ≡ part_value c v (Joining r x y) a
    unfolding part_value
    joining_means r x y s t a h i j =
        filled_with_two v r s t a
        ∙ rule_agrees (λ q b. cond (eqb q 0) (v s b) (v t b)) (λ q b. cond (eqb q 0) (part_value c v x b) (part_value c v y b)) (filled r 0 1) a h
        (λ q b _ k. rw (i b k, j b k))

    -- the operand of an inner part has the part's value
    operand_means : (n : ℕ) (x : Part) → AsSaid n (opens x) → (a : ℕ) → a < c.nodes → v (operand n x) a ≡ part_value c v x a
    unfolding operand opens part_value
    operand_means n (Named s) o a h = refl
    operand_means n (Plain r) o a h = obeys_first (part_value c v) o a h
    operand_means n (Around r x) o a h = obeys_first (part_value c v) o a h
    operand_means n (Joining r x y) o a h = obeys_first (part_value c v) o a h

    -- and so has its rule, where the fresh shapes inside it are numbered from n on
    rule_means : (n : ℕ) (x : Part) → AsSaid n (opens_inside x) → (a : ℕ) → a < c.nodes → rule_value c v (rule n x) a ≡ part_value c v x a
    unfolding opens_inside rule
    rule_means n (Named s) o a h = named_means s a
    rule_means n (Plain r) o a h = plain_means r a
    rule_means n (Around r x) o a h = around_means r x (operand n x) a h (operand_means n x o)
    rule_means n (Joining r x y) o a h =
        joining_means r x y (operand n x) (operand (n + size x) y) a h
        (operand_means n x (obeys_left (part_value c v) (opens x) (opens y) o))
        (operand_means (n + size x) y (rw (length_opens x) at (obeys_right (part_value c v) (opens x) (opens y) o)))

    -- so fresh shapes obey their rules exactly where they obey their parts: of an inner part, inside a part, and of all written parts
    fresh_alike : (n : ℕ) (x : Part) → ByRules n (fresh n x) ↔ AsSaid n (opens x)
    unfolding fresh opens opens_inside
    fresh_alike n (Named s) = none_alike
    fresh_alike n (Plain r) = more_alike (λ o b h. plain_means r b) none_alike
    fresh_alike n (Around r x) = more_alike (rule_means (suc n) (Around r x)) (fresh_alike (suc n) x)
    fresh_alike n (Joining r x y) =
        more_alike (rule_means (suc n) (Joining r x y))
        (append_alike (fresh (suc n) x) (fresh (suc n + size x) y) (opens x) (opens y) (length_fresh (suc n) x) (length_opens x)
        (λ _. fresh_alike (suc n) x) (fresh_alike (suc n + size x) y))

    inside_alike : (n : ℕ) (x : Part) → ByRules n (inside n x) ↔ AsSaid n (opens_inside x)
    unfolding inside opens_inside
    inside_alike n (Named s) = none_alike
    inside_alike n (Plain r) = none_alike
    inside_alike n (Around r x) = fresh_alike n x
    inside_alike n (Joining r x y) =
        append_alike (fresh n x) (fresh (n + size x) y) (opens x) (opens y) (length_fresh n x) (length_opens x) (λ _. fresh_alike n x) (fresh_alike (n + size x) y)

    deeper_alike : (n : ℕ) (l : List Part) → ByRules n (fresh_rules n l) ↔ AsSaid n (deeper l)
    unfolding fresh_rules deeper
    deeper_alike n [] = none_alike
    deeper_alike n (x ∷ l) =
        let k = n + inner_size x in
        append_alike (inside n x) (fresh_rules k l) (opens_inside x) (deeper l) (length_inside n x) (length_opens_inside x) (λ _. inside_alike n x) (deeper_alike k l)

    -- and written ones do, where the fresh ones obey their parts
    written_alike : (base n : ℕ) (l : List Part) → AsSaid n (deeper l) → ByRules base (rules n l) ↔ AsSaid base l
    unfolding rules deeper
    written_alike base n [] o = none_alike
    written_alike base n (x ∷ l) o =
        more_alike (λ _. rule_means n x (obeys_left (part_value c v) (opens_inside x) (deeper l) o))
        (written_alike (suc base) (n + inner_size x) l (rw (length_opens_inside x) at (obeys_right (part_value c v) (opens_inside x) (deeper l) o)))

    -- and so all shapes of an expansion
    expansion_alike : (l : List Part) → ByRules 0 (expansion l) ↔ AsSaid 0 (l ++ deeper l)
    unfolding expansion
    expansion_alike l =
        let w = length l in
        let z : 0 + w ≡ w = omega arith in
        append_alike (rules w l) (fresh_rules w l) l (deeper l) (length_rules w l) refl (rw z (written_alike 0 w l)) (rw z (deeper_alike w l))

-- ---- A supported assignment of the expansion

-- in a list, what stands for an element behind its end does not matter
get_d_either : {A : Type 0} (l : List A) (i : ℕ) (d e : A) → i < length l → get_or l i d ≡ get_or l i e
get_d_either [] i d e h = absurd (omega arith)
get_d_either (x ∷ l) zero d e h = refl
get_d_either (x ∷ l) (suc i) d e h = get_d_either l i d e (omega arith)

module _ (c : Case) (v : List ℕ) where
  -- an assignment is supported exactly where the shapes obey their rules
  supported_obeys : supported c v ≡ true → ByRules c (entry_at c v) 0 c.shapes
  unfolding supported supported_at shape_rule entry_at
  supported_obeys h = record {
    obeys = λ s a d l m.
        let k = pair_of c s a in
        let in_case = pair_below c s a l m in
        let each = ((and-eq-true_iff (valued c v) (all (up_to (pair_count c)) (supported_at c v))).0 h).1 in
        let own = eqb-true (get_or v k 0) (pair_value c v k) (all_up_to_in (pair_count c) (supported_at c v) each k in_case) in
        let e : 0 + s ≡ s = omega arith in
        rw (e, get_d_either c.shapes s d (Node (record { 0 = c.nodes })) l)
        (own ∙ every_pair_by_its_rule c v k in_case ∙ rw (shape_of_pair c s a m, node_of_pair c s a m));
  }

  obeys_supported : valued c v ≡ true → ByRules c (entry_at c v) 0 c.shapes → supported c v ≡ true
  unfolding supported supported_at shape_rule entry_at
  obeys_supported h o =
      (and-eq-true_iff (valued c v) (all (up_to (pair_count c)) (supported_at c v))).1 (
        h,
        all_up_to_of (pair_count c) (supported_at c v) (λ k b.
            let s = shape_of c k in
            let e : 0 + s ≡ s = omega arith in
            let own = rw (e, pair_of_parts c k b) at (o.obeys s (node_of c k) (Node (record { 0 = c.nodes })) (shape_below c k b) (node_below c k b)) in
            eq-eqb (get_or v k 0) (pair_value c v k) (own ∙ sym (every_pair_by_its_rule c v k b))),
      )

module _ (c : Case) (l : List Part) (e : c.shapes ≡ expansion l) (v : List ℕ) where
  -- and so exactly where they obey their parts, those of the written ones and then those of the fresh
  all_alike : ByRules c (entry_at c v) 0 c.shapes ↔ AsSaid c (entry_at c v) 0 (l ++ deeper l)
  all_alike = subst (λ shapes. ByRules c (entry_at c v) 0 shapes ↔ AsSaid c (entry_at c v) 0 (l ++ deeper l)) (sym e) (expansion_alike c (entry_at c v) l)

  pub supported_said : supported c v ≡ true → (s a : ℕ) (d : Part) → s < length (l ++ deeper l) → a < c.nodes
      → entry_at c v s a ≡ part_value c (entry_at c v) (get_or (l ++ deeper l) s d) a
  supported_said h s a d k m = let z : 0 + s ≡ s = omega arith in rw z at ((all_alike.0 (supported_obeys c v h)).obeys s a d k m)

  pub said_supported : valued c v ≡ true → (d : Part)
      → ((s a : ℕ) → s < length (l ++ deeper l) → a < c.nodes → entry_at c v s a ≡ part_value c (entry_at c v) (get_or (l ++ deeper l) s d) a)
      → supported c v ≡ true
  said_supported h d f =
      obeys_supported c v h
      (all_alike.1 (record { obeys = λ s a x k m. let z : 0 + s ≡ s = omega arith in rw (z, get_d_either (l ++ deeper l) s x d k) (f s a k m) }))

  -- "The written shape takes the outermost part's rule", and so has its value
  pub part_means : supported c v ≡ true → (i a : ℕ) (d : Part) → i < length l → a < c.nodes → entry_at c v i a ≡ part_value c (entry_at c v) (get_or l i d) a
  part_means h i a d k m = supported_said h i a d (omega (arith, length-append l (deeper l))) m ∙ rw (get_or-append l (deeper l) d i k)

  -- and a fresh one has the value of the part that it stands for
  pub fresh_means : supported c v ≡ true → (j a : ℕ) (d : Part) → j < length (deeper l) → a < c.nodes
      → entry_at c v (length l + j) a ≡ part_value c (entry_at c v) (get_or (deeper l) j d) a
  fresh_means h j a d k m = supported_said h (length l + j) a d (omega (arith, length-append l (deeper l))) m ∙ rw (get_or-append-add l (deeper l) j d)
