-- Whether the level of a supported pair is above its support, by tests on the levels that its rule reads. Assumes nothing.
use Rattle.std.specs.Prelude.{Option}
use Prim.Native.Nat.{ℕ, zero, suc, min, ◌+◌, ◌-◌, ◌*◌, ◌≤◌, ◌<◌}
use native.Mathlib.Omega.{arith}
use mathlib.Core.Path.{◌≡◌, refl, sym, ap, ap₂, ◌∙◌}
use mathlib.Core.Bool.{Bool, true, false, cond, not, ◌&&◌, ◌||◌, and-eq-true_iff}
use mathlib.Core.List.{List}
use lib.Arith.{digits_lt}
use lib.ListN.{length, get_or}
use lib.Dec.{eqb, leb, ltb}
use borrow.Author.Tests.{le-ltb, ltb-true, leb-true, leb-false, ne_eqb, eq-eqb, eqb-true}
use Rattle.fixpoint.specs.Lists.{any, up_to, all, count}
use Rattle.fixpoint.proofs.Lists.{or_left, get_d_made}
use Rattle.bitset.specs.Words.{member}
use Rattle.bitset.proofs.Members.{rows_apart}
use Rattle.cases.specs.Faults.{Refusal, no_refusal}
use Rattle.cases.specs.Case.{Case, references}
use Rattle.cases.specs.Counts.{size_of}
use Rattle.cases.specs.Rows.{case_in}
use Rattle.cases.specs.declared.command.ShapeRule.{ShapeRule}
use Rattle.cases.specs.declared.command.ShapeRule.TheVariants.{Top, Node as NodeRule, And, Or, Not, Same, All, AtLeast}
use Rattle.cases.specs.declared.counts.Counts.{Counts}
use Rattle.cases.specs.declared.counts.Size.{Size}
use Rattle.cases.specs.declared.numbers.Shape.{Shape}
use Rattle.cases.specs.declared.numbers.Path.{Path}
use Rattle.fillers.specs.CaseTables.{Tables}
use Rattle.fillers.specs.NodeSets.{names_path}
use Rattle.fillers.proofs.InTables.{pair_count_is}
use Rattle.pairs.specs.Sets.{Threshold}
use Rattle.semantics.specs.Levels.{rule_support, support_below, pair_support, justified_at}
use Rattle.semantics.specs.Operations.{refuse_unless, levels_in}
use Rattle.semantics.specs.Paths.{fills}
use Rattle.semantics.specs.Stability.{holds}
use Rattle.semantics.specs.Values.{pair_count, entry_at, supported_at}
use Rattle.semantics.proofs.Thresholds.{support_by_tests}
use Rattle.cases.specs.declared.ruled.Ruled.{Ruled}
use Rattle.cases.specs.Ruled.{ruled_in}
use Rattle.support.specs.Rules.{RuleIn}
use Rattle.support.proofs.Holding.{row_holds, fillers_all, fillers_counted}
use Rattle.support.proofs.Passing.{WellFrom, well_next, first_found, first_none_found, RowsWell, rows_well_more, rows_well_first, rows_well_all}
use Rattle.support.proofs.RulesThere.{rule_in, node_of_counts, rule_positive, shapes_known, all_path_named, least_path_named}
use Rattle.support.proofs.Supported.{holds_agree, entry_in, node_in_case, pair_rule, pair_node, pair_value_is}
use Rattle.justifying.specs.Digits.{DigitsUnless}
use Rattle.justifying.specs.Justifying.{LevelsRead, filled_shape, justified_in, unjustified, SupportBelow, LevelSuffices, PairJustified, PairsSupported, RowJustified, LevelsChecked}
use Rattle.justifying.specs.LevelRows.{level_at, is_low, LevelRow, RowBelow}

-- ---- Two tests, the second made where the first leaves it open

module _ {x : Bool} (p q : Bool) (e : x ≡ p) where
  pub both_hold : {y : Bool} → x ≡ true → y ≡ q → y ≡ (p && q)
  both_hold t f = f ∙ rw (← e, t)

  pub first_fails : x ≡ false → x ≡ (p && q)
  first_fails t = t ∙ rw (← e, t)

  pub first_holds : x ≡ true → x ≡ (p || q)
  first_holds t = t ∙ rw (← e, t)

  pub second_decides : {y : Bool} → x ≡ false → y ≡ q → y ≡ (p || q)
  second_decides t f = f ∙ rw (← e, t)

-- ---- What a rule reads is there

module _ {counts : Counts} {rows sets : List ℕ} {of : Ruled} (i : RuleIn counts rows sets of) where
  pub level_row : {levels : List ℕ} {s : ℕ} → 2 * (counts.shapes * counts.nodes) ≤ length levels → s < counts.shapes → LevelRow levels of.size s
  level_row {s = s} m l = rw i.size_is (record { fits = omega (arith, rows_apart counts.nodes s counts.shapes l) })

  -- the fillers of a path that it names are nodes
  pub fillers_below : (p : ℕ) {a m : ℕ} → names_path (case_in counts rows) p ≡ true → a < of.size.nodes → m ≡ 1 + p * of.size.nodes + a → RowBelow sets m of.size
  fillers_below p {a} named h e = rw (e, i.size_is) (record {
    each = λ b l y.
        ltb-true b counts.nodes
        ((and-eq-true_iff (ltb b counts.nodes) (fills (case_in counts rows) p a b)).0 (sym (row_holds i.tables (rw i.size_is at h) p named b l) ∙ y)).0;
  })

-- ---- Digits of the levels that a rule reads at fillers

module _ {levels : List ℕ} {size : Size} {digits : List ℕ} {used : Option ℕ} {r : ShapeRule} {p : Path} {s : Shape} where
  pub digits_of_all : r ≡ All p s → DigitsUnless levels size s.0 digits used → DigitsUnless levels size (filled_shape r) digits used
  unfolding filled_shape references
  digits_of_all e d = rw e d

  pub digits_of_least : {n : ℕ} → r ≡ AtLeast n p s → DigitsUnless levels size s.0 digits used → DigitsUnless levels size (filled_shape r) digits used
  unfolding filled_shape references
  digits_of_least e d = rw e d

  pub digits_in_all : r ≡ All p s → DigitsUnless levels size (filled_shape r) digits used → DigitsUnless levels size s.0 digits used
  unfolding filled_shape references
  digits_in_all e d = rw e at d

  pub digits_in_least : {n : ℕ} → r ≡ AtLeast n p s → DigitsUnless levels size (filled_shape r) digits used → DigitsUnless levels size s.0 digits used
  unfolding filled_shape references
  digits_in_least e d = rw e at d

-- ---- The tests of a rule

module _ {of : Ruled} {a : ℕ} {sets set levels : List ℕ} {bound : ℕ} where
  -- a rule that reads nothing that has to hold
  pub tests_free : {r : ShapeRule} → of.rule ≡ r → ((c : Case) (S : ℕ → ℕ → Bool) (l : ℕ → ℕ → ℕ) → support_below c S l bound r a ≡ true)
      → SupportBelow of a sets set levels bound true
  tests_free e f = record { right = λ counts rows i. rw e (sym (f _ _ _)) }

  module _ {s q : Shape} {x : Bool} where
    pub tests_and : of.rule ≡ And s q → x ≡ (is_low levels bound of.size s.0 a && is_low levels bound of.size q.0 a) → SupportBelow of a sets set levels bound x
    unfolding support_below
    tests_and e f = record { right = λ counts rows i. rw (e, f) }

    pub tests_or : of.rule ≡ Or s q
        → x ≡ ((member set of.size.words s.0 a && is_low levels bound of.size s.0 a) || (member set of.size.words q.0 a && is_low levels bound of.size q.0 a))
        → SupportBelow of a sets set levels bound x
    unfolding support_below
    tests_or e f = record { right = λ counts rows i. rw (e, f) }

  module _ (h : a < of.size.nodes) {p : Path} {s : Shape} {m : ℕ} (k : m ≡ 1 + p.0 * of.size.nodes + a) where
    pub tests_all : {x : Bool} → of.rule ≡ All p s
        → x ≡ all (up_to (64 * of.size.words)) (λ b. not (member sets of.size.words m b) || is_low levels bound of.size s.0 b) → SupportBelow of a sets set levels bound x
    unfolding support_below
    tests_all e g = record {
      right = λ counts rows i.
          g ∙ rw (k, e, i.size_is) (fillers_all i.tables (rw i.size_is at h) p.0 (all_path_named i e) (is_low levels bound (size_of counts) s.0));
    }

    pub tests_least : {n u : ℕ} → of.rule ≡ AtLeast n p s
        → u ≡ count (up_to (64 * of.size.words)) (λ b. member sets of.size.words m b && (member set of.size.words s.0 b && is_low levels bound of.size s.0 b))
        → SupportBelow of a sets set levels bound (leb n u)
    unfolding support_below
    tests_least {n} e g = record {
      right = λ counts rows i.
          ap (leb n) g
          ∙ rw (k, e, i.size_is)
          (ap (leb n)
          (fillers_counted i.tables (rw i.size_is at h) p.0 (least_path_named i e)
          (λ b. member set (size_of counts).words s.0 b && is_low levels bound (size_of counts) s.0 b)));
    }

-- The tests answer the same with sets and levels that agree at the rule's references: each is a rule that holds
module _ (c : Case) (a bound : ℕ) (S S' : ℕ → ℕ → Bool) (l l' : ℕ → ℕ → ℕ) (ha : a < c.nodes) where
  abbrev Agree : ShapeRule → Type 0
  Agree r = ((s b : ℕ) → any (references r) (λ q. eqb q s) ≡ true → b < c.nodes → S s b ≡ S' s b)
      × ((s b : ℕ) → any (references r) (λ q. eqb q s) ≡ true → b < c.nodes → l s b ≡ l' s b)

  abbrev low : (ℕ → ℕ → ℕ) → ℕ → ℕ → Bool
  low l s b = ltb (l s b) bound

  lows_agree : (r : ShapeRule) → Agree r → holds c (low l) S r a ≡ holds c (low l') S r a
  lows_agree r f = holds_agree c r a (low l) (low l') S S ha (λ s b i h. ap (λ z. ltb z bound) (f.1 s b i h)) (λ s b i h. refl)

  both_agree : (r : ShapeRule) → Agree r → holds c (λ s b. S s b && low l s b) S r a ≡ holds c (λ s b. S' s b && low l' s b) S r a
  both_agree r f =
      holds_agree c r a _ _ S S ha (λ s b i h. ap₂ (λ y z. y && ltb z bound) (f.0 s b i h) (f.1 s b i h)) (λ s b i h. refl)

  tests_agree : (r : ShapeRule) → Agree r → support_below c S l bound r a ≡ support_below c S' l' bound r a
  unfolding support_below holds
  tests_agree Top f = refl
  tests_agree (NodeRule b) f = refl
  tests_agree (And s t) f = lows_agree (And s t) f
  tests_agree (Or s t) f = both_agree (Or s t) f
  tests_agree (Not s) f = refl
  tests_agree (Same p q) f = refl
  tests_agree (All p s) f = lows_agree (All p s) f
  tests_agree (AtLeast n p s) f = both_agree (AtLeast n p s) f

-- ---- A pair's level and its support

live_value : (l : Bool) (y z : ℕ) → cond l y 0 ≡ z → 1 ≤ z → y ≡ z
live_value true y z e h = e
live_value false y z e h = absurd (omega arith)

module _ {counts : Counts} {rows sets : List ℕ} {of : Ruled} (i : RuleIn counts rows sets of) (levels : List ℕ) where
  -- the level of a pair in bytes and in the list of levels
  level_is : (p : ℕ) → p < counts.shapes * counts.nodes → level_at levels p ≡ get_or (levels_in (pair_count (case_in counts rows)) levels) p 0
  unfolding levels_in level_at
  level_is p l = sym (get_d_made _ (pair_count (case_in counts rows)) p 0 (omega (arith, pair_count_is i.tables)))

  module _ {a k : ℕ} (h : a < of.size.nodes) (e : k ≡ of.shape.0 * counts.nodes + a) (values : List ℕ) (some : 1 ≤ get_or values k 0) where
    abbrev support : ℕ
    support =
        let c = case_in counts rows in
        rule_support c (entry_at c values) (entry_at c (levels_in (pair_count c) levels)) (get_or values k 0) of.rule a

    justified_is : justified_in counts rows values levels k ≡ ltb support (level_at levels k)
    unfolding justified_at pair_support
    justified_is =
        let c = case_in counts rows in
        let l : List ℕ = levels_in (pair_count c) levels in
        ap (λ z. z || ltb (pair_support c values l k) (get_or l k 0)) (ne_eqb (get_or values k 0) 0 (omega arith))
        ∙ ap₂ ltb
        (ap₂ (rule_support c (entry_at c values) (entry_at c l) (get_or values k 0)) (pair_rule i h e) (pair_node i h e))
        (sym (level_is k (rw e (digits_lt i.below (node_of_counts i h)))))

    tests_are : {set : List ℕ} → get_or values k 0 ≤ 2 → Threshold counts values (get_or values k 0) set → supported_at (case_in counts rows) values k ≡ true → (bound : ℕ) → 0 < bound
        → support_below (case_in counts rows) (member set of.size.words) (λ s b. level_at levels (s * of.size.nodes + b)) bound of.rule a ≡ ltb support bound
    unfolding supported_at
    tests_are small set_is supported zero pos = absurd (omega arith)
    tests_are {set} small set_is supported (suc bound) pos =
        let c = case_in counts rows in
        let v = get_or values k 0 in
        let l : List ℕ = levels_in (pair_count c) levels in
        let n = i.tables.nodes in
        tests_agree c a (suc bound) (member set of.size.words) (λ s b. leb v (entry_at c values s b)) (λ s b. level_at levels (s * of.size.nodes + b)) (entry_at c l)
        (node_in_case i h) of.rule (
          λ s b r m. rw (entry_in i values s b, i.size_is) (set_is.members s b (shapes_known i s r) (omega arith)),
          λ s b r m. rw (entry_in i l s b, i.size_is) (level_is (s * counts.nodes + b) (digits_lt (shapes_known i s r) (omega arith))),
        )
        ∙ sym (support_by_tests c (entry_at c values) (entry_at c l) of.rule a v bound (rule_positive i) some small
        (live_value (member sets of.size.words 0 a) _ v (sym (pair_value_is i h e values) ∙ sym (eqb-true v _ supported)) some))

-- the place of the pair, by the size of the tables
pair_in : {counts : Counts} {rows sets : List ℕ} {of : Ruled} → RuleIn counts rows sets of → (a : ℕ) {k : ℕ} → k ≡ of.shape.0 * counts.nodes + a
    → of.shape.0 * of.size.nodes + a ≡ k
pair_in {of = of} i a e = ap (λ (z : Size). of.shape.0 * z.nodes + a) i.size_is ∙ sym e

module _ {of : Ruled} {a : ℕ} {sets set levels : List ℕ} (h : a < of.size.nodes) {level : ℕ} (f : level ≡ level_at levels (of.shape.0 * of.size.nodes + a)) where
  pub suffices_never : level ≤ 0 → LevelSuffices of a sets set levels (ltb 0 level)
  suffices_never z = record {
    right = λ counts rows i values k e some small set_is supported.
        le-ltb 0 level z
        ∙ sym (justified_is i levels h e values some ∙ le-ltb (support i levels h e values some) (level_at levels k) (let q = f ∙ ap (level_at levels) (pair_in i a e) in omega arith));
  }

  pub suffices_if : {answer : Bool} → 0 < level → SupportBelow of a sets set levels level answer → LevelSuffices of a sets set levels answer
  suffices_if pos g = record {
    right = λ counts rows i values k e some small set_is supported.
        g.right counts rows i
        ∙ tests_are i levels h e values some small set_is supported level pos
        ∙ ap (ltb (support i levels h e values some)) (f ∙ ap (level_at levels) (pair_in i a e))
        ∙ sym (justified_is i levels h e values some);
  }

-- by the two sets
module _ {of : Ruled} {a : ℕ} {sets : List ℕ} (h : a < of.size.nodes) where
  set_at : {counts : Counts} {rows : List ℕ} → RuleIn counts rows sets of → {k : ℕ} → k ≡ of.shape.0 * counts.nodes + a → {values set : List ℕ} {x : ℕ} → Threshold counts values x set
      → member set of.size.words of.shape.0 a ≡ leb x (get_or values k 0)
  set_at i e r = rw (i.size_is, e) (r.members of.shape.0 a i.below (node_of_counts i h))

  module _ {valid possible levels : List ℕ} {b : Bool} (e : b ≡ member valid of.size.words of.shape.0 a) where
    pub justified_valid : {answer : Bool} → b ≡ true → LevelSuffices of a sets valid levels answer → PairJustified of a sets valid possible levels answer
    justified_valid y g = record {
      right = λ counts rows i values k q p supported.
          let least = leb-true 2 (get_or values k 0) (sym (set_at i q p.valid_set) ∙ sym e ∙ y) in
          let v : get_or values k 0 ≡ 2 = omega (arith, p.valued k (rw q (digits_lt i.below (node_of_counts i h)))) in
          g.right counts rows i values k q (omega arith) (omega arith) (rw v p.valid_set) supported;
    }

    module _ {o : Bool} (f : o ≡ member possible of.size.words of.shape.0 a) (n : b ≡ false) where
      pub justified_open : {answer : Bool} → o ≡ true → LevelSuffices of a sets possible levels answer → PairJustified of a sets valid possible levels answer
      justified_open y g = record {
        right = λ counts rows i values k q p supported.
            let least = leb-true 1 (get_or values k 0) (sym (set_at i q p.possible_set) ∙ sym f ∙ y) in
            let most = leb-false 2 (get_or values k 0) (sym (set_at i q p.valid_set) ∙ sym e ∙ n) in
            let v : get_or values k 0 ≡ 1 = omega arith in
            g.right counts rows i values k q (omega arith) (omega arith) (rw v p.possible_set) supported;
      }

      pub justified_violated : o ≡ false → PairJustified of a sets valid possible levels true
      unfolding justified_at
      justified_violated y = record {
        right = λ counts rows i values k q p supported.
            let most = leb-false 1 (get_or values k 0) (sym (set_at i q p.possible_set) ∙ sym f ∙ y) in
            sym (or_left (eqb (get_or values k 0) 0) _ (eq-eqb (get_or values k 0) 0 (omega arith)));
      }

-- ---- The first pair of a shape that is not justified, if they are supported: those below k are

pub record JustifiedTo (of : Ruled) (sets valid possible levels : List ℕ) (pairs k : ℕ) : Type 0 where
  pub from : of.shape.0 * of.size.nodes ≤ k
  pub well : (counts : Counts) (rows : List ℕ) → RuleIn counts rows sets of → (values : List ℕ) → PairsSupported counts rows values valid possible pairs
      → WellFrom (unjustified counts rows values levels) (of.shape.0 * counts.nodes) k

module _ {of : Ruled} {sets valid possible levels : List ℕ} {pairs : ℕ} where
  module _ {k : ℕ} (v : JustifiedTo of sets valid possible levels pairs k) where
    module _ {end : ℕ} (h : k < end) (least : end ≡ min (of.shape.0 * of.size.nodes + of.size.nodes) pairs) where
      pub justified_node : k - of.shape.0 * of.size.nodes < of.size.nodes
      justified_node = omega (arith, v.from)

      module _ {answer : Bool} (g : PairJustified of (k - of.shape.0 * of.size.nodes) sets valid possible levels answer) {r : Refusal} (e : r ≡ refuse_unless answer 15 k) where
        fault_is : {counts : Counts} {rows : List ℕ} → RuleIn counts rows sets of → {values : List ℕ} → PairsSupported counts rows values valid possible pairs
            → r ≡ unjustified counts rows values levels k
        fault_is {counts} {rows} i {values} p =
            let m : k ≡ of.shape.0 * counts.nodes + (k - of.shape.0 * of.size.nodes) = rw i.size_is (omega (arith, rw i.size_is at v.from)) in
            e ∙ ap (λ z. refuse_unless z 15 k) (g.right counts rows i values k m p.proposed (p.each k (omega arith)))

        pub justified_more : r.number ≡ 0 → JustifiedTo of sets valid possible levels pairs (k + 1)
        justified_more z = record { from = omega (arith, v.from); well = λ counts rows i values p. well_next (fault_is i p) z (v.well counts rows i values p) }

        pub justified_first : (r.number ≡ 0 → ⊥) → RowJustified of sets valid possible levels pairs r
        justified_first n = record {
          right = λ counts rows i values p.
              let o : of.shape.0 * counts.nodes ≤ k = rw i.size_is at v.from in
              let m : end ≡ min (of.shape.0 * counts.nodes + counts.nodes) pairs = rw i.size_is at least in
              first_found (fault_is i p) n o (omega arith) (omega arith) (v.well counts rows i values p);
        }

    pub justified_all : {end : ℕ} {r : Refusal} → end ≤ k → end ≡ min (of.shape.0 * of.size.nodes + of.size.nodes) pairs → r ≡ no_refusal
        → RowJustified of sets valid possible levels pairs r
    justified_all {end} h least e = record {
      right = λ counts rows i values p.
          let m : end ≡ min (of.shape.0 * counts.nodes + counts.nodes) pairs = rw i.size_is at least in first_none_found e (λ j l o. omega arith) (v.well counts rows i values p);
    }

-- ---- All shapes: the pairs of those below s are justified, if they are supported

pub record JustifiedRows (counts : Counts) (rows sets valid possible levels : List ℕ) (pairs s : ℕ) : Type 0 where
  pub tables : Tables counts rows sets
  pub well : (values : List ℕ) → PairsSupported counts rows values valid possible pairs
      → RowsWell (unjustified counts rows values levels) counts.nodes counts.shapes pairs s

module _ {counts : Counts} {rows sets valid possible levels : List ℕ} {pairs : ℕ} where
  module _ {s : ℕ} (v : JustifiedRows counts rows sets valid possible levels pairs s) where
    module _ (h : s < counts.shapes) {of : Ruled} (e : of ≡ ruled_in counts rows (record { 0 = s })) where
      pub levels_read : 2 * (counts.shapes * counts.nodes) ≤ length levels → LevelsRead of sets levels
      levels_read l = record { counts = counts; rows = rows; rule_in = rule_in v.tables h e; levels_there = l }

      module _ {r : Refusal} (g : RowJustified of sets valid possible levels pairs r) where
        pub justified_rows_more : r.number ≡ 0 → JustifiedRows counts rows sets valid possible levels pairs (s + 1)
        justified_rows_more z = record {
          tables = v.tables;
          well = λ values p. rows_well_more h (rw e at (g.right counts rows (rule_in v.tables h e) values p)) z (v.well values p);
        }

        pub justified_rows_first : (r.number ≡ 0 → ⊥) → LevelsChecked counts rows valid possible levels pairs r
        justified_rows_first n = record {
          right = λ values p. rows_well_first (rw e at (g.right counts rows (rule_in v.tables h e) values p)) n (v.well values p);
        }

    pub justified_rows_all : {r : Refusal} → counts.shapes ≤ s → pairs ≤ counts.shapes * counts.nodes → r ≡ no_refusal → LevelsChecked counts rows valid possible levels pairs r
    justified_rows_all h l e = record { right = λ values p. e ∙ rows_well_all h l (v.well values p) }
