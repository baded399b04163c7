-- The value that a rule gives a pair, by the values that it reads and by the sets of valid and of possible pairs; and the pairs that have it.
-- Assumes nothing.
use Rattle.std.specs.Prelude.{Ok}
use Prim.Native.Nat.{ℕ, zero, suc, ◌+◌, ◌-◌, ◌*◌, ◌≤◌, ◌<◌, min, max}
use native.Mathlib.Omega.{arith}
use mathlib.Core.Path.{◌≡◌, refl, sym, ap, ap₂, ◌∙◌}
use mathlib.Core.Bool.{Bool, true, false, cond, not, ◌&&◌, ◌||◌, beq}
use mathlib.Core.List.{List}
use lib.Arith.{digits_lt, digits_div, digits_mod}
use lib.ListN.{get_or}
use lib.Dec.{eqb, leb}
use borrow.Author.Tests.{le-leb, lt-leb, leb-true, lt-ltb, not-true, not-false}
use Rattle.fixpoint.specs.Lists.{any, up_to, all, count}
use Rattle.fixpoint.proofs.Lists.{bool_ext}
use Rattle.bitset.specs.Words.{member}
use Rattle.cases.specs.Faults.{Refusal, no_refusal}
use Rattle.cases.specs.Case.{Case, shape_rule, references}
use Rattle.cases.specs.Rows.{case_in}
use Rattle.cases.specs.declared.command.ShapeRule.{ShapeRule}
use Rattle.cases.specs.declared.command.ShapeRule.TheVariants.{Top, Node as NodeRule, And, Or, Not, Same, All, AtLeast}
use Rattle.cases.specs.declared.counts.Counts.{Counts}
use Rattle.cases.specs.declared.numbers.Node.{Node}
use Rattle.cases.specs.declared.numbers.Shape.{Shape}
use Rattle.cases.specs.declared.numbers.Path.{Path}
use Rattle.fillers.specs.CaseTables.{Tables}
use Rattle.fillers.proofs.InTables.{pair_count_is}
use Rattle.semantics.specs.declared.value.Value.{Value}
use Rattle.semantics.specs.OldCode.{support_fault}
use Rattle.semantics.specs.Operations.{refuse_unless}
use Rattle.semantics.specs.Paths.{live}
use Rattle.semantics.specs.Stability.{holds}
use Rattle.semantics.specs.Values.{Said, Is, Above, byte_says, said_number, said_value, said_value_or_fault, pair_of, shape_of, node_of, entry_at, rule_value, pair_value, supported_at}
use Rattle.semantics.proofs.Kernel.{holds_grows}
use Rattle.semantics.proofs.Thresholds.{value_at_least, value_at_most}
use Rattle.cases.specs.declared.ruled.Ruled.{Ruled}
use Rattle.support.specs.Proposals.{ValuesRead, unsupported, RowSupported}
use Rattle.cases.specs.Ruled.{ruled_in}
use Rattle.support.specs.Rules.{RuleIn, RuleGives, PairGives}
use Rattle.support.proofs.Holding.{RuleHolds, holds_same, holds_all, holds_least}
use Rattle.support.proofs.Passing.{WellFrom, well_next, first_found, RowsWell, rows_well_first, rows_well_all}
use Rattle.support.proofs.RulesThere.{rule_in, rule_of, node_of_counts, rule_positive, shapes_known, value_small, value_valid, value_possible}

-- a rule that is read in sets that agree at its references holds in both or in neither
pub holds_agree : (c : Case) (r : ShapeRule) (a : ℕ) (Y Y' X X' : ℕ → ℕ → Bool) → a < c.nodes
    → ((s b : ℕ) → any (references r) (λ q. eqb q s) ≡ true → b < c.nodes → Y s b ≡ Y' s b)
    → ((s b : ℕ) → any (references r) (λ q. eqb q s) ≡ true → b < c.nodes → X s b ≡ X' s b)
    → holds c Y X r a ≡ holds c Y' X' r a
holds_agree c r a Y Y' X X' ha f g =
    bool_ext (holds c Y X r a) (holds c Y' X' r a)
    (holds_grows c r a Y Y' X X' ha (λ s b z i l e. sym (f s b i l) ∙ e) (λ s b z i l e. g s b i l ∙ e))
    (holds_grows c r a Y' Y X' X ha (λ s b z i l e. f s b i l ∙ e) (λ s b z i l e. sym (g s b i l) ∙ e))

-- ---- A byte that is at most 2 says its value

pub says_value : (b : ℕ) → b ≤ 2 → said_value_or_fault (byte_says b) ≡ Ok (record { 0 = b })
unfolding byte_says
says_value b small = rw (le-leb b 2 small)

module _ (b : ℕ) {said : Said} (e : said ≡ byte_says b) (small : b ≤ 2) where
  says : said ≡ Is (record { 0 = b })
  unfolding byte_says
  says = e ∙ rw (le-leb b 2 small)

  pub said_value_is : {v : Value} → said ≡ Is v → v.0 ≡ b
  said_value_is q = ap said_value (sym q ∙ says)

  pub said_above : said ≡ Above → 0 ≡ b
  said_above q = let n : ◌≡◌ {A = ℕ} 13 0 = ap said_number (sym q ∙ says) in absurd (omega (arith, n))

-- ---- A rule and its pairs in the case

module _ {counts : Counts} {rows sets : List ℕ} {of : Ruled} (i : RuleIn counts rows sets of) where
  -- an entry by the size of the tables
  pub entry_in : (l : List ℕ) (s a : ℕ) → entry_at (case_in counts rows) l s a ≡ get_or l (s * of.size.nodes + a) 0
  unfolding entry_at pair_of
  entry_in l s a = rw (i.tables.nodes, i.size_is)

  module _ {a : ℕ} (h : a < of.size.nodes) where
    pub node_in_case : a < (case_in counts rows).nodes
    node_in_case = omega (arith, i.tables.nodes, node_of_counts i h)

    -- the parts of the pair at node a
    module _ {k : ℕ} (e : k ≡ of.shape.0 * counts.nodes + a) where
      pair_shape : shape_of (case_in counts rows) k ≡ of.shape.0
      unfolding shape_of
      pair_shape = rw (i.tables.nodes, e) (digits_div of.shape.0 (node_of_counts i h))

      pub pair_node : node_of (case_in counts rows) k ≡ a
      unfolding node_of
      pair_node = rw (i.tables.nodes, e) (digits_mod of.shape.0 (node_of_counts i h))

      pub pair_rule : shape_rule (case_in counts rows) (shape_of (case_in counts rows) k) ≡ of.rule
      pair_rule = ap (shape_rule (case_in counts rows)) pair_shape ∙ sym (rule_of i)

      live_is : live (case_in counts rows) a ≡ member sets of.size.words 0 a
      live_is =
          rw i.size_is
          (sym (i.tables.lives.members a (omega (arith, i.tables.wide, node_of_counts i h))
          ∙ ap (λ z. z && live (case_in counts rows) a) (lt-ltb a (case_in counts rows).nodes node_in_case)))

      -- its value, by its rule and the live nodes
      pub pair_value_is : (values : List ℕ) → pair_value (case_in counts rows) values k
          ≡ cond (member sets of.size.words 0 a) (rule_value (case_in counts rows) (entry_at (case_in counts rows) values) of.rule a) 0
      unfolding pair_value
      pair_value_is values = rw (pair_rule, pair_node, live_is)

-- ---- A rule's value

-- a value by two tests
two_tests : (x : ℕ) → x ≤ 2 → cond {A = ℕ} (leb 2 x) 2 (cond (leb 1 x) 1 0) ≡ x
two_tests zero h = refl
two_tests (suc zero) h = refl
two_tests (suc (suc zero)) h = refl
two_tests (suc (suc (suc x))) h = absurd (omega arith)

module _ {of : Ruled} {a : ℕ} {sets values : List ℕ} where
  pub gives_top : of.rule ≡ Top → RuleGives of a sets values 2
  unfolding rule_value
  gives_top e = record { right = λ counts rows i. rw e }

  pub gives_node : {b : Node} {x : ℕ} {z : Bool} → of.rule ≡ NodeRule b → z ≡ eqb b.0 a → x ≡ cond z 2 (cond false 1 0) → RuleGives of a sets values x
  unfolding rule_value
  gives_node e f q = record { right = λ counts rows i. q ∙ rw (e, f) }

  module _ {s q : Shape} {x y z : ℕ} where
    pub gives_and : of.rule ≡ And s q → x ≡ min y z → y ≡ get_or values (s.0 * of.size.nodes + a) 0 → z ≡ get_or values (q.0 * of.size.nodes + a) 0
        → RuleGives of a sets values x
    unfolding rule_value
    gives_and e o f g = record { right = λ counts rows i. o ∙ rw (e, f, g, entry_in i values s.0 a, entry_in i values q.0 a) }

    pub gives_or : of.rule ≡ Or s q → x ≡ max y z → y ≡ get_or values (s.0 * of.size.nodes + a) 0 → z ≡ get_or values (q.0 * of.size.nodes + a) 0
        → RuleGives of a sets values x
    unfolding rule_value
    gives_or e o f g = record { right = λ counts rows i. o ∙ rw (e, f, g, entry_in i values s.0 a, entry_in i values q.0 a) }

  pub gives_not : {s : Shape} {x y : ℕ} → of.rule ≡ Not s → x ≡ 2 - y → y ≡ get_or values (s.0 * of.size.nodes + a) 0 → RuleGives of a sets values x
  unfolding rule_value
  gives_not {s} e o f = record { right = λ counts rows i. o ∙ rw (e, f, entry_in i values s.0 a) }

  module _ (h : a < of.size.nodes) where
    pub gives_same : {p q : Path} {m n x : ℕ} {b : Bool} → of.rule ≡ Same p q
        → m ≡ 1 + p.0 * of.size.nodes + a → n ≡ 1 + q.0 * of.size.nodes + a → x ≡ cond b 2 (cond false 1 0)
        → b ≡ all (up_to (64 * of.size.words)) (λ b. beq (member sets of.size.words m b) (member sets of.size.words n b)) → RuleGives of a sets values x
    unfolding rule_value holds
    gives_same e k l o g = record {
      right = λ counts rows i. o ∙ rw e (ap (λ z. cond z 2 0) (rw e at ((holds_same h {y = values} {x = values} e k l g).right counts rows i)));
    }

    -- by the sets: 2 where the rule holds of valid pairs, 1 where it only holds of possible ones
    module _ {valid possible : List ℕ} (v : ValuesRead of sets values valid possible) where
      module _ {counts : Counts} {rows : List ℕ} (i : RuleIn counts rows sets of) where
        below : (b : ℕ) → b < (case_in counts rows).nodes → b < of.size.nodes
        below b l = rw i.size_is (omega (arith, i.tables.nodes))

        valid_at : (s b : ℕ) → any (references of.rule) (λ q. eqb q s) ≡ true → b < (case_in counts rows).nodes
            → member valid of.size.words s b ≡ leb 2 (entry_at (case_in counts rows) values s b)
        valid_at s b r l = value_valid v.rule_in v.proposed (below b l) (shapes_known v.rule_in s r) ∙ rw (entry_in i values s b)

        possible_at : (s b : ℕ) → any (references of.rule) (λ q. eqb q s) ≡ true → b < (case_in counts rows).nodes
            → member possible of.size.words s b ≡ leb 1 (entry_at (case_in counts rows) values s b)
        possible_at s b r l = value_possible v.rule_in v.proposed (below b l) (shapes_known v.rule_in s r) ∙ rw (entry_in i values s b)

        -- the value that is to be given
        abbrev given : ℕ
        given = rule_value (case_in counts rows) (entry_at (case_in counts rows) values) of.rule a

        valid_if : {z : Bool} → RuleHolds of a sets valid possible z → z ≡ leb 2 given
        valid_if g =
            g.right counts rows i
            ∙ holds_agree (case_in counts rows) of.rule a _ _ _ _ (node_in_case i h) valid_at possible_at
            ∙ sym (value_at_least (case_in counts rows) (entry_at (case_in counts rows) values) of.rule a 2 (rule_positive i) (omega arith) (omega arith))

        possible_if : {z : Bool} → RuleHolds of a sets possible valid z → z ≡ leb 1 given
        possible_if g =
            g.right counts rows i
            ∙ holds_agree (case_in counts rows) of.rule a _ _ _ _ (node_in_case i h) possible_at valid_at
            ∙ sym (value_at_least (case_in counts rows) (entry_at (case_in counts rows) values) of.rule a 1 (rule_positive i) (omega arith) (omega arith))

        at_most_2 : given ≤ 2
        at_most_2 =
            value_at_most (case_in counts rows) (entry_at (case_in counts rows) values) of.rule a (node_in_case i h)
            (λ s b r l. rw (entry_in i values s b) (value_small v.rule_in v.proposed (below b l) (shapes_known v.rule_in s r)))

      -- where it holds of valid pairs, the possible ones need not be asked
      by_valid : {z : Bool} → RuleHolds of a sets valid possible z → z ≡ true → RuleGives of a sets values 2
      by_valid g y = record {
        right = λ counts rows i. let least = leb-true 2 (given i) (sym (valid_if i g) ∙ y) in omega (arith, at_most_2 i);
      }

      by_possible : {x : ℕ} {z u : Bool} → RuleHolds of a sets valid possible z → z ≡ false → RuleHolds of a sets possible valid u → x ≡ cond false 2 (cond u 1 0)
          → RuleGives of a sets values x
      by_possible {u = u} g y j o = record {
        right = λ counts rows i.
            o
            ∙ ap (λ z. cond z 2 (cond u 1 0)) (sym y)
            ∙ ap₂ (λ y z. cond y 2 (cond z 1 0)) (valid_if i g) (possible_if i j)
            ∙ two_tests (given i) (at_most_2 i);
      }

      module _ {m : ℕ} {p : Path} {s : Shape} (k : m ≡ 1 + p.0 * of.size.nodes + a) where
        module _ (e : of.rule ≡ All p s) {z : Bool}
            (g : z ≡ all (up_to (64 * of.size.words)) (λ b. not (member sets of.size.words m b) || member valid of.size.words s.0 b)) where
          pub gives_all_valid : z ≡ true → RuleGives of a sets values 2
          gives_all_valid y = by_valid (holds_all h k e g) y

          pub gives_all : {x : ℕ} {u : Bool} → z ≡ false
              → u ≡ all (up_to (64 * of.size.words)) (λ b. not (member sets of.size.words m b) || member possible of.size.words s.0 b) → x ≡ cond false 2 (cond u 1 0)
              → RuleGives of a sets values x
          gives_all y j o = by_possible (holds_all h k e g) y (holds_all h k e j) o

        module _ {n : ℕ} (e : of.rule ≡ AtLeast n p s) {j : ℕ}
            (g : j ≡ count (up_to (64 * of.size.words)) (λ b. member sets of.size.words m b && member valid of.size.words s.0 b)) where
          pub gives_least_valid : n ≤ j → RuleGives of a sets values 2
          gives_least_valid l = by_valid (holds_least h k e g) (le-leb n j l)

          pub gives_least : {x u : ℕ} → j < n → u ≡ count (up_to (64 * of.size.words)) (λ b. member sets of.size.words m b && member possible of.size.words s.0 b)
              → x ≡ cond false 2 (cond (leb n u) 1 0) → RuleGives of a sets values x
          gives_least l q o = by_possible (holds_least h k e g) (lt-leb n j l) (holds_least h k e q) o

    -- ---- A pair's value: at a live node its rule's value, else 0

    module _ {b : Bool} (m : b ≡ member sets of.size.words 0 a) where
      pub pair_live : {x : ℕ} → not b ≡ false → RuleGives of a sets values x → PairGives of a sets values x
      pair_live y g = record { right = λ counts rows i. g.right counts rows i ∙ sym (pair_value_is i h refl values ∙ rw (← m, not-false b y)) }

      pub pair_dead : not b ≡ true → PairGives of a sets values 0
      pair_dead y = record { right = λ counts rows i. sym (pair_value_is i h refl values ∙ rw (← m, not-true b y)) }

-- ---- The first pair of a shape that is not supported: those at the nodes below a are

pub record SupportedTo (of : Ruled) (sets values : List ℕ) (a : ℕ) : Type 0 where
  pub most : a ≤ of.size.nodes
  pub well : (counts : Counts) (rows : List ℕ) → RuleIn counts rows sets of
      → WellFrom (unsupported counts rows values) (of.shape.0 * counts.nodes) (of.shape.0 * counts.nodes + a)

module _ {of : Ruled} {sets values : List ℕ} where
  module _ {a : ℕ} (v : SupportedTo of sets values a) where
    module _ {x : ℕ} {r : Refusal} (h : a < of.size.nodes) (e : r ≡ refuse_unless (eqb (get_or values (of.shape.0 * of.size.nodes + a) 0) x) 14 (of.shape.0 * of.size.nodes + a))
        (g : PairGives of a sets values x) where
      fault_is : {counts : Counts} {rows : List ℕ} → RuleIn counts rows sets of → r ≡ unsupported counts rows values (of.shape.0 * counts.nodes + a)
      unfolding supported_at
      fault_is {counts} {rows} i = (rw i.size_is at e) ∙ rw (g.right counts rows i)

      pub supported_more : r.number ≡ 0 → SupportedTo of sets values (a + 1)
      supported_more z = record {
        most = omega arith;
        well = λ counts rows i.
            let m : of.shape.0 * counts.nodes + a + 1 ≡ of.shape.0 * counts.nodes + (a + 1) = omega arith in
            rw m at (well_next (fault_is i) z (v.well counts rows i));
      }

      pub supported_first : (r.number ≡ 0 → ⊥) → RowSupported of sets values r
      supported_first n = record {
        right = λ counts rows i.
            first_found (fault_is i) n (omega arith) (omega (arith, node_of_counts i h)) (digits_lt i.below (node_of_counts i h)) (v.well counts rows i);
      }

-- ---- All shapes: the pairs of those below s are supported

pub record SupportedRows (counts : Counts) (rows sets values : List ℕ) (s : ℕ) : Type 0 where
  pub tables : Tables counts rows sets
  pub well : RowsWell (unsupported counts rows values) counts.nodes counts.shapes (counts.shapes * counts.nodes) s

module _ {counts : Counts} {rows sets values : List ℕ} where
  module _ {s : ℕ} (v : SupportedRows counts rows sets values s) where
    module _ (h : s < counts.shapes) {of : Ruled} (e : of ≡ ruled_in counts rows (record { 0 = s })) where
      module _ {r : Refusal} (g : RowSupported of sets values r) where
        pub supported_rows_first : (r.number ≡ 0 → ⊥) → r ≡ support_fault (case_in counts rows) values
        supported_rows_first n = rows_well_first (rw e at (g.right counts rows (rule_in v.tables h e))) n v.well ∙ rw (← pair_count_is v.tables)

    pub supported_rows_all : {r : Refusal} → counts.shapes ≤ s → r ≡ no_refusal → r ≡ support_fault (case_in counts rows) values
    supported_rows_all h e = e ∙ rows_well_all h (omega arith) v.well ∙ rw (← pair_count_is v.tables)
