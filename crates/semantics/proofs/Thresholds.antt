-- Thresholds: a rule's value is at least w exactly where the rule holds with references read at least w and denied ones at least 3 - w;
-- and a pair of value w is justified exactly where it holds with references of lower levels. Assumes nothing.
use Prim.Native.Nat.{ℕ, zero, suc, ◌+◌, ◌-◌, ◌≤◌, ◌<◌, max}
use native.Mathlib.Omega.{arith}
use mathlib.Core.Path.{◌≡◌, refl, sym, ap, ◌∙◌}
use mathlib.Core.Logic.{⊎_elim}
use mathlib.Core.Bool.{Bool, true, false, cond, not, ◌&&◌, ◌||◌, and-eq-true_iff}
use mathlib.Core.List.{List, [], ◌∷◌, map}
use lib.ListN.{length, length-map, get_or-eq_default}
use lib.Dec.{eqb, leb, ltb, leb-zero}
use borrow.Author.Tests.{leb-true, le-leb, lt-ltb, lt-leb, leb-false, eqb-true, eq-eqb}
use Rattle.fixpoint.specs.Lists.{any, all, keep, count, smallest, sort, nth_smallest, nth_largest}
use Rattle.fixpoint.proofs.Lists.{tests, bool_cases, bool_ext, leb_min, ltb_max, all_where, length_keep, leb_same, all_map}
use Rattle.fixpoint.proofs.Lists.{count_map, count_keep, count_not, count_all, length_sort, smallest_at_least, largest_below, nth_smallest_below, nth_largest_at_least}
use Rattle.cases.specs.Case.{Case, references}
use Rattle.cases.specs.Faults.{shape_least_positive}
use Rattle.cases.specs.declared.command.ShapeRule.{ShapeRule}
use Rattle.cases.specs.declared.command.ShapeRule.TheVariants.{Top, Node, And, Or, Not, Same, All, AtLeast}
use Rattle.semantics.specs.Paths.{fillers, same_fillers}
use Rattle.semantics.specs.Values.{rule_value}
use Rattle.semantics.specs.Levels.{rule_support, support_below}
use Rattle.semantics.specs.Stability.{holds}
use Rattle.semantics.proofs.Kernel.{fillers_pass, first_among, second_of}

-- the order of w and a value, for each way that a rule's value comes about; a not turns w into 3 - w
leb_test : (b : Bool) (w : ℕ) → 1 ≤ w → w ≤ 2 → leb w (cond b 2 0) ≡ b
leb_test true w lo hi = le-leb w 2 hi
leb_test false w lo hi = lt-leb w 0 lo

leb_max : (w a b : ℕ) → leb w (max a b) ≡ leb w a || leb w b
leb_max w a b =
    ⊎_elim
    (λ e. rw e (le-leb w (max a b) (omega (arith, tests))))
    (λ e. rw e (leb_same w (max a b) w b (omega (arith, tests)) (omega (arith, tests))))
    (bool_cases (leb w a))

leb_deny : (w a : ℕ) → 1 ≤ w → w ≤ 2 → leb w (2 - a) ≡ not (leb (3 - w) a)
leb_deny w a lo hi =
    ⊎_elim
    (λ e. rw e (lt-leb w (2 - a) (omega (arith, tests))))
    (λ e. rw e (le-leb w (2 - a) (omega (arith, tests))))
    (bool_cases (leb (3 - w) a))

pub value_at_least : (c : Case) (v : ℕ → ℕ → ℕ) (r : ShapeRule) (a w : ℕ) → shape_least_positive r ≡ true → 1 ≤ w → w ≤ 2
    → leb w (rule_value c v r a) ≡ holds c (λ s b. leb w (v s b)) (λ s b. leb (3 - w) (v s b)) r a
unfolding rule_value holds
value_at_least c v Top a w n lo hi = le-leb w 2 hi
value_at_least c v (Node b) a w n lo hi = leb_test (eqb b.0 a) w lo hi
value_at_least c v (And s t) a w n lo hi = leb_min w (v s.0 a) (v t.0 a)
value_at_least c v (Or s t) a w n lo hi = leb_max w (v s.0 a) (v t.0 a)
value_at_least c v (Not s) a w n lo hi = leb_deny w (v s.0 a) lo hi
value_at_least c v (Same p q) a w n lo hi = leb_test (same_fillers c p.0 q.0 a) w lo hi
value_at_least c v (All p s) a w n lo hi =
    smallest_at_least w 2 (map (v s.0) (fillers c p.0 a)) ∙ rw (le-leb w 2 hi) (all_map (v s.0) (fillers c p.0 a) (λ x. leb w x))
value_at_least c v (AtLeast m p s) a w n lo hi =
    nth_largest_at_least m w (map (v s.0) (fillers c p.0 a)) (leb-true 1 m n) lo ∙ rw (count_map (v s.0) (fillers c p.0 a) (λ x. leb w x))

-- the same for the bound 2; a least number 0 asks for a place past the end, where the value is 0
test_at_most : (b : Bool) → cond {A = ℕ} b 2 0 ≤ 2
test_at_most true = omega arith
test_at_most false = omega arith

smallest_at_most : (m : ℕ) (l : List ℕ) → smallest m l ≤ m
unfolding smallest
smallest_at_most m [] = omega arith
smallest_at_most m (x ∷ l) = omega (arith, smallest_at_most m l)

nth_largest_at_most : (n m : ℕ) (l : List ℕ) → all l (λ x. not (leb (suc m) x)) ≡ true → nth_largest n l ≤ m
unfolding nth_largest
nth_largest_at_most zero m l h =
    let past : length (sort l) ≤ length l - 0 = omega (arith, length_sort l) in
    rw (leb-zero (length l), get_or-eq_default (sort l) 0 past) (omega arith)
nth_largest_at_most (suc n) m l h =
    let few : count l (λ x. leb (suc m) x) < suc n = omega (arith, count_not l (λ x. leb (suc m) x), count_all l (λ x. not (leb (suc m) x)) h) in
    let small = nth_largest_at_least (suc n) (suc m) l (omega arith) (omega arith) ∙ lt-leb (suc n) (count l (λ x. leb (suc m) x)) few in
    omega (arith, leb-false (suc m) (nth_largest (suc n) l) small)

-- values stay at most 2
pub value_at_most : (c : Case) (v : ℕ → ℕ → ℕ) (r : ShapeRule) (a : ℕ) → a < c.nodes → ((s b : ℕ) → any (references r) (λ t. eqb t s) ≡ true → b < c.nodes → v s b ≤ 2) → rule_value c v r a ≤ 2
unfolding rule_value references
value_at_most c v Top a ha small = omega arith
value_at_most c v (Node b) a ha small = test_at_most (eqb b.0 a)
value_at_most c v (And s t) a ha small = omega (arith, small s.0 a (first_among s.0 (t.0 ∷ [])) ha)
value_at_most c v (Or s t) a ha small =
    omega (arith, small s.0 a (first_among s.0 (t.0 ∷ [])) ha, small t.0 a (second_of s.0 t.0) ha)
value_at_most c v (Not s) a ha small = omega arith
value_at_most c v (Same p q) a ha small = test_at_most (same_fillers c p.0 q.0 a)
value_at_most c v (All p s) a ha small = smallest_at_most 2 (map (v s.0) (fillers c p.0 a))
value_at_most c v (AtLeast n p s) a ha small =
    nth_largest_at_most n 2 (map (v s.0) (fillers c p.0 a))
    (all_map (v s.0) (fillers c p.0 a) (λ x. not (leb 3 x))
    ∙ fillers_pass c p.0 a (λ b. not (leb 3 (v s.0 b))) (λ b h k. ap not (lt-leb 3 (v s.0 b) (omega (arith, small s.0 b (first_among s.0 []) h)))))

-- the n-th smallest of what was kept is below k if n of the elements pass and are below k; for or (n = 1) and at least
kept_below : (n k : ℕ) (l : List ℕ) (t : ℕ → Bool) (f : ℕ → ℕ) → 1 ≤ n → n ≤ count l t → ltb (nth_smallest n (map f (keep l t))) k ≡ leb n (count l (λ x. t x && ltb (f x) k))
kept_below n k l t f one fits =
    nth_smallest_below n k (map f (keep l t)) one (omega (arith, length-map (keep l t) f, length_keep l t))
    ∙ rw (count_map f (keep l t) (λ x. ltb x k), count_keep l t (λ x. ltb (f x) k))

one_of_two : (x y : Bool) → leb 1 (cond x 1 0 + (cond y 1 0 + 0)) ≡ x || y
one_of_two true true = refl
one_of_two true false = refl
one_of_two false true = refl
one_of_two false false = refl

eqb_at_most : (a w : ℕ) → a ≤ w → eqb a w ≡ leb w a
eqb_at_most a w h =
    bool_ext (eqb a w) (leb w a) (λ e. le-leb w a (omega (arith, eqb-true a w e))) (λ e. eq-eqb a w (omega (arith, tests)))

-- By cases on the rule, which holds with references read at least w: those parts of an or that are at least w are the ones of value w,
-- since its parts are at most w, and at least n fillers are at least w, so that the n-th level is there.
support_tests : (c : Case) (v l : ℕ → ℕ → ℕ) (r : ShapeRule) (a w L : ℕ) → shape_least_positive r ≡ true → rule_value c v r a ≡ w
    → holds c (λ s b. leb w (v s b)) (λ s b. leb (3 - w) (v s b)) r a ≡ true
    → ltb (rule_support c v l w r a) (suc L) ≡ support_below c (λ s b. leb w (v s b)) l (suc L) r a
unfolding rule_value rule_support holds support_below
support_tests c v l Top a w L n e h = lt-ltb 0 (suc L) (omega arith)
support_tests c v l (Node b) a w L n e h = lt-ltb 0 (suc L) (omega arith)
support_tests c v l (And s t) a w L n e h = ltb_max (suc L) (l s.0 a) (l t.0 a)
support_tests c v l (Or s t) a w L n e h =
    let es = eqb_at_most (v s.0 a) w (omega arith) in
    let et = eqb_at_most (v t.0 a) w (omega arith) in
    kept_below 1 (suc L) (s.0 ∷ t.0 ∷ []) (λ r. eqb (v r a) w) (λ r. l r a) (omega arith)
    (unfold count in leb-true 1 _ (one_of_two (eqb (v s.0 a) w) (eqb (v t.0 a) w) ∙ rw (es, et) h))
    ∙ (unfold count in one_of_two (eqb (v s.0 a) w && ltb (l s.0 a) (suc L)) (eqb (v t.0 a) w && ltb (l t.0 a) (suc L)) ∙ rw (es, et))
support_tests c v l (Not s) a w L n e h = lt-ltb 0 (suc L) (omega arith)
support_tests c v l (Same p q) a w L n e h = lt-ltb 0 (suc L) (omega arith)
support_tests c v l (All p s) a w L n e h =
    largest_below L (map (l s.0) (fillers c p.0 a)) ∙ all_map (l s.0) (fillers c p.0 a) (λ x. ltb x (suc L))
support_tests c v l (AtLeast m p s) a w L n e h =
    kept_below m (suc L) (fillers c p.0 a) (λ b. leb w (v s.0 b)) (l s.0) (leb-true 1 m n)
    (leb-true m (count (fillers c p.0 a) (λ b. leb w (v s.0 b))) h)

-- where the rule holds with references read in S, these tests are the rule read in S and below the bound
tests_hold : (c : Case) (S X : ℕ → ℕ → Bool) (l : ℕ → ℕ → ℕ) (r : ShapeRule) (a bound : ℕ) → holds c S X r a ≡ true
    → support_below c S l bound r a ≡ holds c (λ s b. S s b && ltb (l s b) bound) X r a
unfolding support_below holds
tests_hold c S X l Top a bound h = refl
tests_hold c S X l (Node b) a bound h = sym h
tests_hold c S X l (And s t) a bound h = let r = (and-eq-true_iff (S s.0 a) (S t.0 a)).0 h in rw (r.0, r.1)
tests_hold c S X l (Or s t) a bound h = refl
tests_hold c S X l (Not s) a bound h = sym h
tests_hold c S X l (Same p q) a bound h = sym h
tests_hold c S X l (All p s) a bound h = all_where (fillers c p.0 a) (S s.0) (λ b. ltb (l s.0 b) bound) h
tests_hold c S X l (AtLeast m p s) a bound h = refl

module _ (c : Case) (v l : ℕ → ℕ → ℕ) (r : ShapeRule) (a w L : ℕ) (n : shape_least_positive r ≡ true) (lo : 1 ≤ w) (hi : w ≤ 2) (e : rule_value c v r a ≡ w) where
  at_its_value : holds c (λ s b. leb w (v s b)) (λ s b. leb (3 - w) (v s b)) r a ≡ true
  at_its_value = sym (value_at_least c v r a w n lo hi) ∙ le-leb w (rule_value c v r a) (omega arith)

  pub support_by_tests : ltb (rule_support c v l w r a) (suc L) ≡ support_below c (λ s b. leb w (v s b)) l (suc L) r a
  support_by_tests = support_tests c v l r a w L n e at_its_value

  pub support_below_lem : ltb (rule_support c v l w r a) (suc L) ≡ holds c (λ s b. leb w (v s b) && ltb (l s b) (suc L)) (λ s b. leb (3 - w) (v s b)) r a
  support_below_lem = support_by_tests ∙ tests_hold c (λ s b. leb w (v s b)) (λ s b. leb (3 - w) (v s b)) l r a (suc L) at_its_value
