-- Parts: how many shapes they make, what holds of each of their rules, and what these refer to. Assumes nothing.
use Prim.Native.Nat.{ℕ, suc, ◌+◌, ◌≤◌, ◌<◌}
use native.Mathlib.Omega.{arith}
use mathlib.Core.Path.{◌≡◌, refl, sym, ap, ◌∙◌}
use mathlib.Core.Bool.{Bool, true, ◌&&◌, and-eq-true_iff}
use mathlib.Core.List.{List, [], ◌∷◌, ◌++◌, map, append_assoc, append-nil}
use lib.ListN.{length, length-append, length-map}
use lib.Dec.{ltb}
use borrow.Author.Tests.{lt-ltb}
use Rattle.fixpoint.specs.Lists.{all}
use Rattle.fixpoint.proofs.Lists.{tests, all_append, all_mono}
use Rattle.cases.specs.declared.command.ShapeRule.{ShapeRule}
use Rattle.cases.specs.declared.command.ShapeRule.TheVariants.{Top, Node, And, Or, Not, Same, All, AtLeast}
use Rattle.cases.specs.Case.{references}
use Rattle.cases.specs.Parts.{Part, Named, Plain, Around, Joining, names, filled, size, inner_size, operand, rule, fresh, inside}
use Rattle.cases.specs.Parts.{rules, fresh_rules, fresh_count, expansion}

-- ---- How many shapes

pub length_fresh : (n : ℕ) (x : Part) → length (fresh n x) ≡ size x
unfolding fresh size
length_fresh n (Named s) = refl
length_fresh n (Plain r) = refl
length_fresh n (Around r x) = ap suc (length_fresh (suc n) x)
length_fresh n (Joining r x y) =
    ap suc (length-append (fresh (suc n) x) (fresh (suc n + size x) y) ∙ rw (length_fresh (suc n) x, length_fresh (suc n + size x) y))

pub length_inside : (n : ℕ) (x : Part) → length (inside n x) ≡ inner_size x
unfolding inside inner_size
length_inside n (Named s) = refl
length_inside n (Plain r) = refl
length_inside n (Around r x) = length_fresh n x
length_inside n (Joining r x y) =
    length-append (fresh n x) (fresh (n + size x) y) ∙ rw (length_fresh n x, length_fresh (n + size x) y)

pub length_rules : (n : ℕ) (l : List Part) → length (rules n l) ≡ length l
unfolding rules
length_rules n [] = refl
length_rules n (x ∷ l) = ap suc (length_rules (n + inner_size x) l)

pub length_fresh_rules : (n : ℕ) (l : List Part) → length (fresh_rules n l) ≡ fresh_count l
unfolding fresh_rules fresh_count
length_fresh_rules n [] = refl
length_fresh_rules n (x ∷ l) =
    length-append (inside n x) (fresh_rules (n + inner_size x) l) ∙ rw (length_inside n x, length_fresh_rules (n + inner_size x) l)

pub length_expansion : (l : List Part) → length (expansion l) ≡ length l + fresh_count l
unfolding expansion
length_expansion l =
    let n = length l in
    length-append (rules n l) (fresh_rules n l) ∙ rw (length_rules n l, length_fresh_rules n l)

-- ---- One written part more

pub fresh_count_more : (l : List Part) (x : Part) → fresh_count (l ++ (x ∷ [])) ≡ fresh_count l + inner_size x
unfolding fresh_count
fresh_count_more [] x = omega arith
fresh_count_more (y ∷ l) x = omega (arith, fresh_count_more l x)

pub rules_more : (n : ℕ) (l : List Part) (x : Part) → rules n (l ++ (x ∷ [])) ≡ rules n l ++ (rule (n + fresh_count l) x ∷ [])
unfolding rules fresh_count
rules_more n [] x = let e : n + 0 ≡ n = omega arith in rw e
rules_more n (y ∷ l) x =
    let e : n + inner_size y + fresh_count l ≡ n + (inner_size y + fresh_count l) = omega arith in
    ap (λ r. rule n y ∷ r) (rules_more (n + inner_size y) l x ∙ rw e)

pub fresh_rules_more : (n : ℕ) (l : List Part) (x : Part) → fresh_rules n (l ++ (x ∷ [])) ≡ fresh_rules n l ++ inside (n + fresh_count l) x
unfolding fresh_rules fresh_count
fresh_rules_more n [] x = let e : n + 0 ≡ n = omega arith in rw e (append-nil (inside n x))
fresh_rules_more n (y ∷ l) x =
    let e : n + inner_size y + fresh_count l ≡ n + (inner_size y + fresh_count l) = omega arith in
    rw (fresh_rules_more (n + inner_size y) l x, e) (sym (append_assoc (inside n y) (fresh_rules (n + inner_size y) l) (inside (n + (inner_size y + fresh_count l)) x)))

-- ---- A test that each rule of a part passes, and so each rule of its expansion, if it does not ask for shape operands

unfoldable pub ruled : (ShapeRule → Bool) → Part → Bool
ruled t (Named s) = true
ruled t (Plain r) = t r
ruled t (Around r x) = t r && ruled t x
ruled t (Joining r x y) = t r && (ruled t x && ruled t y)

-- it does not ask for shape operands, and an or of named shapes passes it
pub record Blind (t : ShapeRule → Bool) : Type 0 where
  pub blind : (r : ShapeRule) (p q : ℕ) → t (filled r p q) ≡ t r
  pub ors : (p : ℕ) → t (Or (record { 0 = p }) (record { 0 = p })) ≡ true

module _ {t : ShapeRule → Bool} (b : Blind t) where
  rule_passes : (n : ℕ) (x : Part) → ruled t x ≡ true → t (rule n x) ≡ true
  unfolding rule ruled
  rule_passes n (Named s) h = b.ors s
  rule_passes n (Plain r) h = h
  rule_passes n (Around r x) h = b.blind r (operand n x) (operand n x) ∙ ((and-eq-true_iff (t r) (ruled t x)).0 h).0
  rule_passes n (Joining r x y) h =
      b.blind r (operand n x) (operand (n + size x) y) ∙ ((and-eq-true_iff (t r) (ruled t x && ruled t y)).0 h).0

  fresh_pass : (n : ℕ) (x : Part) → ruled t x ≡ true → all (fresh n x) t ≡ true
  unfolding fresh ruled all
  fresh_pass n (Named s) h = refl
  fresh_pass n (Plain r) h = rw h
  fresh_pass n (Around r x) h =
      rw (rule_passes (suc n) (Around r x) h) (fresh_pass (suc n) x ((and-eq-true_iff (t r) (ruled t x)).0 h).1)
  fresh_pass n (Joining r x y) h =
      let both = (and-eq-true_iff (ruled t x) (ruled t y)).0 ((and-eq-true_iff (t r) (ruled t x && ruled t y)).0 h).1 in
      rw (rule_passes (suc n) (Joining r x y) h, all_append (fresh (suc n) x) (fresh (suc n + size x) y) t)
      (rw (fresh_pass (suc n) x both.0) (fresh_pass (suc n + size x) y both.1))

  inside_pass : (n : ℕ) (x : Part) → ruled t x ≡ true → all (inside n x) t ≡ true
  unfolding inside ruled all
  inside_pass n (Named s) h = refl
  inside_pass n (Plain r) h = refl
  inside_pass n (Around r x) h = fresh_pass n x ((and-eq-true_iff (t r) (ruled t x)).0 h).1
  inside_pass n (Joining r x y) h =
      let both = (and-eq-true_iff (ruled t x) (ruled t y)).0 ((and-eq-true_iff (t r) (ruled t x && ruled t y)).0 h).1 in
      rw (all_append (fresh n x) (fresh (n + size x) y) t) (rw (fresh_pass n x both.0) (fresh_pass (n + size x) y both.1))

  rules_pass : (n : ℕ) (l : List Part) → all l (ruled t) ≡ true → all (rules n l) t ≡ true
  unfolding rules all
  rules_pass n [] h = refl
  rules_pass n (x ∷ l) h =
      let both = (and-eq-true_iff (ruled t x) (all l (ruled t))).0 h in
      rw (rule_passes n x both.0) (rules_pass (n + inner_size x) l both.1)

  fresh_rules_pass : (n : ℕ) (l : List Part) → all l (ruled t) ≡ true → all (fresh_rules n l) t ≡ true
  unfolding fresh_rules all
  fresh_rules_pass n [] h = refl
  fresh_rules_pass n (x ∷ l) h =
      let both = (and-eq-true_iff (ruled t x) (all l (ruled t))).0 h in
      rw (all_append (inside n x) (fresh_rules (n + inner_size x) l) t) (rw (inside_pass n x both.0) (fresh_rules_pass (n + inner_size x) l both.1))

  pub expansion_passes : (l : List Part) → all l (ruled t) ≡ true → all (expansion l) t ≡ true
  unfolding expansion
  expansion_passes l h =
      let n = length l in
      rw (all_append (rules n l) (fresh_rules n l) t) (rw (rules_pass n l h) (fresh_rules_pass n l h))

-- ---- What the expansion refers to: named shapes, and fresh ones

abbrev pub below : ℕ → List ℕ → Bool
below m l = all l (λ s. ltb s m)

filled_below : (m : ℕ) (r : ShapeRule) (p q : ℕ) → p < m → q < m → below m (references (filled r p q)) ≡ true
unfolding filled references all
filled_below m Top p q h k = refl
filled_below m (Node a) p q h k = refl
filled_below m (And _ _) p q h k = rw (lt-ltb p m h, lt-ltb q m k)
filled_below m (Or _ _) p q h k = rw (lt-ltb p m h, lt-ltb q m k)
filled_below m (Not _) p q h k = rw (lt-ltb p m h)
filled_below m (Same _ _) p q h k = refl
filled_below m (All _ _) p q h k = rw (lt-ltb p m h)
filled_below m (AtLeast _ _ _) p q h k = rw (lt-ltb p m h)

module _ (m : ℕ) where
  -- numbers from n on for as many shapes as a part makes are below m
  operand_below : (n : ℕ) (x : Part) → below m (names x) ≡ true → n + size x ≤ m → operand n x < m
  unfolding operand names size all
  operand_below n (Named s) h k = omega (arith, tests, (and-eq-true_iff (ltb s m) true).0 h)
  operand_below n (Plain r) h k = omega arith
  operand_below n (Around r x) h k = omega arith
  operand_below n (Joining r x y) h k = omega arith

  pub names_both : (x y : Part) → below m (names x ++ names y) ≡ true → (below m (names x) ≡ true) × (below m (names y) ≡ true)
  names_both x y h = (and-eq-true_iff (below m (names x)) (below m (names y))).0 (sym (all_append (names x) (names y) (λ s. ltb s m)) ∙ h)

  named_below : (s : ℕ) → below m (s ∷ []) ≡ true → below m (references (Or (record { 0 = s }) (record { 0 = s }))) ≡ true
  unfolding references all
  named_below s h = let e = ((and-eq-true_iff (ltb s m) true).0 h).0 in rw e

  rule_below : (n : ℕ) (x : Part) → below m (names x) ≡ true → n + inner_size x ≤ m → below m (references (rule n x)) ≡ true
  unfolding rule names inner_size
  rule_below n (Named s) h k = named_below s h
  rule_below n (Plain r) h k = h
  rule_below n (Around r x) h k = filled_below m r (operand n x) (operand n x) (operand_below n x h k) (operand_below n x h k)
  rule_below n (Joining r x y) h k =
      let both = names_both x y h in
      filled_below m r (operand n x) (operand (n + size x) y)
      (operand_below n x both.0 (omega arith)) (operand_below (n + size x) y both.1 (omega arith))

  refers_below : ShapeRule → Bool
  refers_below r = below m (references r)

  fresh_below : (n : ℕ) (x : Part) → below m (names x) ≡ true → n + size x ≤ m → all (fresh n x) refers_below ≡ true
  unfolding fresh names size inner_size all refers_below
  fresh_below n (Named s) h k = refl
  fresh_below n (Plain r) h k = rw h
  fresh_below n (Around r x) h k = rw (rule_below (suc n) (Around r x) h (omega arith)) (fresh_below (suc n) x h (omega arith))
  fresh_below n (Joining r x y) h k =
      let both = names_both x y h in
      rw (rule_below (suc n) (Joining r x y) h (omega arith), all_append (fresh (suc n) x) (fresh (suc n + size x) y) refers_below)
      (rw (fresh_below (suc n) x both.0 (omega arith)) (fresh_below (suc n + size x) y both.1 (omega arith)))

  inside_below : (n : ℕ) (x : Part) → below m (names x) ≡ true → n + inner_size x ≤ m → all (inside n x) refers_below ≡ true
  unfolding inside names inner_size all
  inside_below n (Named s) h k = refl
  inside_below n (Plain r) h k = refl
  inside_below n (Around r x) h k = fresh_below n x h k
  inside_below n (Joining r x y) h k =
      let both = names_both x y h in
      rw (all_append (fresh n x) (fresh (n + size x) y) refers_below)
      (rw (fresh_below n x both.0 (omega arith)) (fresh_below (n + size x) y both.1 (omega arith)))

  rules_below : (n : ℕ) (l : List Part) → all l (λ x. below m (names x)) ≡ true → n + fresh_count l ≤ m → all (rules n l) refers_below ≡ true
  unfolding rules fresh_count all refers_below
  rules_below n [] h k = refl
  rules_below n (x ∷ l) h k =
      let both = (and-eq-true_iff (below m (names x)) (all l (λ x. below m (names x)))).0 h in
      rw (rule_below n x both.0 (omega arith)) (rules_below (n + inner_size x) l both.1 (omega arith))

  fresh_rules_below : (n : ℕ) (l : List Part) → all l (λ x. below m (names x)) ≡ true → n + fresh_count l ≤ m → all (fresh_rules n l) refers_below ≡ true
  unfolding fresh_rules fresh_count all
  fresh_rules_below n [] h k = refl
  fresh_rules_below n (x ∷ l) h k =
      let both = (and-eq-true_iff (below m (names x)) (all l (λ x. below m (names x)))).0 h in
      rw (all_append (inside n x) (fresh_rules (n + inner_size x) l) refers_below)
      (rw (inside_below n x both.0 (omega arith)) (fresh_rules_below (n + inner_size x) l both.1 (omega arith)))

-- where the names are written shapes, the references are shapes of the expansion
pub expansion_below : (l : List Part) → all l (λ x. below (length l) (names x)) ≡ true
    → all (expansion l) (λ r. below (length (expansion l)) (references r)) ≡ true
unfolding expansion refers_below
expansion_below l h =
    let w = length l in
    let m = length (expansion l) in
    let e : m ≡ w + fresh_count l = length_expansion l in
    let named = all_mono l (λ x. below w (names x)) (λ x. below m (names x)) (λ x. all_mono (names x) (λ s. ltb s w) (λ s. ltb s m) (λ s k. omega (arith, tests))) h in
    all_append (rules w l) (fresh_rules w l) (refers_below m)
    ∙ rw (rules_below m w l named (omega arith)) (fresh_rules_below m w l named (omega arith))

-- ---- Shapes that are written plainly are their own expansion

pub plain_length : (l : List ShapeRule) → length (map Plain l) ≡ length l
plain_length l = simp length-map

plain_rules : (n : ℕ) (l : List ShapeRule) → rules n (map Plain l) ≡ l
unfolding rules rule
plain_rules n [] = refl
plain_rules n (r ∷ l) = ap (λ k. r ∷ k) (plain_rules (n + inner_size (Plain r)) l)

plain_fresh_rules : (n : ℕ) (l : List ShapeRule) → fresh_rules n (map Plain l) ≡ []
unfolding fresh_rules inside
plain_fresh_rules n [] = refl
plain_fresh_rules n (r ∷ l) = plain_fresh_rules (n + inner_size (Plain r)) l

pub plain_expansion : (l : List ShapeRule) → expansion (map Plain l) ≡ l
unfolding expansion
plain_expansion l = rw (plain_rules (length (map Plain l)) l, plain_fresh_rules (length (map Plain l)) l) (append-nil l)
