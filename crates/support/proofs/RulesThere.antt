-- A rule of a case in the tables: what it names is in the case, and what it reads in the tables is there. Assumes nothing.
use Prim.Native.Nat.{ℕ, ◌+◌, ◌*◌, ◌^◌, ◌≤◌, ◌<◌}
use native.Mathlib.Nat.{le-mul_of_pos_right}
use native.Mathlib.Omega.{arith}
use mathlib.Core.Path.{◌≡◌, refl, sym, ◌∙◌}
use mathlib.Core.Bool.{true}
use mathlib.Core.List.{List, [], ◌∷◌}
use lib.Arith.{digits_lt}
use lib.Dec.{eqb, leb}
use lib.ListN.{length, get_or}
use Rattle.fixpoint.specs.Lists.{any}
use Rattle.fixpoint.proofs.Lists.{any_in}
use Rattle.bitset.specs.Words.{member, HasRow}
use Rattle.bitset.proofs.Members.{rows_apart}
use Rattle.cases.specs.Case.{shape_rule, references, paths_of_shape}
use Rattle.cases.specs.Counts.{words_of}
use Rattle.cases.specs.Faults.{shape_least_positive}
use Rattle.cases.specs.Rows.{case_in}
use Rattle.cases.specs.declared.command.ShapeRule.TheVariants.{And, Or, Not, Same, All, AtLeast}
use Rattle.cases.specs.declared.counts.Counts.{Counts}
use Rattle.cases.specs.declared.numbers.Path.{Path}
use Rattle.cases.specs.declared.numbers.Shape.{Shape}
use Rattle.fillers.specs.CaseTables.{Tables}
use Rattle.fillers.specs.NodeSets.{names_path}
use Rattle.fillers.proofs.InTables.{path_named, block_there}
use Rattle.relations.specs.Blocks.{Block}
use Rattle.relations.proofs.Relations.{row_below}
use Rattle.semantics.proofs.Kernel.{first_among, second_of}
use Rattle.semantics.proofs.Pairs.{reference_below, least_positive_at}
use Rattle.cases.specs.declared.ruled.Ruled.{Ruled}
use Rattle.support.specs.Proposals.{Proposed}
use Rattle.cases.specs.Ruled.{ruled_in}
use Rattle.support.specs.Rules.{RuleIn}

-- a shape of the case has a row
pub shape_row_there : {counts : Counts} {rows sets : List ℕ} {s : ℕ} → Tables counts rows sets → s < counts.shapes → s < 32
shape_row_there t l = omega (arith, t.few)

pub rule_in : {counts : Counts} {rows sets : List ℕ} {s : ℕ} {of : Ruled} → Tables counts rows sets → s < counts.shapes → of ≡ ruled_in counts rows (record { 0 = s })
    → RuleIn counts rows sets of
rule_in t l e = rw e (record { tables = t; below = l; rule_is = refl; size_is = refl })

-- a row of fillers, by its number
module _ {sets : List ℕ} {n w a : ℕ} (p : ℕ) (b : Block sets n w (1 + p * n)) (h : a < n) where
  pub block_row : {m : ℕ} → m ≡ 1 + p * n + a → HasRow sets w m
  block_row e = rw e (row_below b refl (1 + p * n + a) (omega arith))

  pub block_row_small : length sets < 2 ^ 64 → 1 + p * n + a < 2 ^ 64
  block_row_small l = omega (arith, (block_row refl).fits, le-mul_of_pos_right {m = w} (1 + p * n + a) (omega (arith, b.narrow)))

module _ {counts : Counts} {rows sets : List ℕ} {of : Ruled} (i : RuleIn counts rows sets of) where
  pub rule_of : of.rule ≡ shape_rule (case_in counts rows) of.shape.0
  rule_of = i.rule_is ∙ sym (i.tables.rule_of of.shape.0 i.below)

  in_case : of.shape.0 < length (case_in counts rows).shapes
  in_case = omega (arith, i.tables.shape_count, i.below)

  pub rule_positive : shape_least_positive of.rule ≡ true
  rule_positive = rw rule_of (least_positive_at (case_in counts rows) i.tables.sound of.shape.0 in_case)

  -- ---- What the rule names

  -- a shape that it names is one of the case
  pub shapes_known : (s : ℕ) → any (references of.rule) (λ q. eqb q s) ≡ true → s < counts.shapes
  shapes_known s r =
      rw i.tables.shape_count at (reference_below (case_in counts rows) i.tables.sound of.shape.0 s in_case (rw rule_of at r))

  module _ {s q : Shape} where
    pub and_first_known : of.rule ≡ And s q → s.0 < counts.shapes
    unfolding references
    and_first_known e = shapes_known s.0 (rw e (first_among s.0 (q.0 ∷ [])))

    pub and_second_known : of.rule ≡ And s q → q.0 < counts.shapes
    unfolding references
    and_second_known e = shapes_known q.0 (rw e (second_of s.0 q.0))

    pub or_first_known : of.rule ≡ Or s q → s.0 < counts.shapes
    unfolding references
    or_first_known e = shapes_known s.0 (rw e (first_among s.0 (q.0 ∷ [])))

    pub or_second_known : of.rule ≡ Or s q → q.0 < counts.shapes
    unfolding references
    or_second_known e = shapes_known q.0 (rw e (second_of s.0 q.0))

  module _ {s : Shape} where
    pub not_known : of.rule ≡ Not s → s.0 < counts.shapes
    unfolding references
    not_known e = shapes_known s.0 (rw e (first_among s.0 []))

    pub all_known : {p : Path} → of.rule ≡ All p s → s.0 < counts.shapes
    unfolding references
    all_known e = shapes_known s.0 (rw e (first_among s.0 []))

    pub least_known : {n : ℕ} {p : Path} → of.rule ≡ AtLeast n p s → s.0 < counts.shapes
    unfolding references
    least_known e = shapes_known s.0 (rw e (first_among s.0 []))

  -- a path that it names is one that a shape of the case names
  paths_named : (p : ℕ) → any (paths_of_shape of.rule) (λ q. eqb q p) ≡ true → names_path (case_in counts rows) p ≡ true
  paths_named = path_named i.tables i.below i.rule_is

  module _ {p : Path} where
    pub same_first_named : {q : Path} → of.rule ≡ Same p q → names_path (case_in counts rows) p.0 ≡ true
    unfolding paths_of_shape
    same_first_named {q} e = paths_named p.0 (rw e (first_among p.0 (q.0 ∷ [])))

    pub same_second_named : {q : Path} → of.rule ≡ Same q p → names_path (case_in counts rows) p.0 ≡ true
    unfolding paths_of_shape
    same_second_named {q} e = paths_named p.0 (rw e (second_of q.0 p.0))

    pub all_path_named : {s : Shape} → of.rule ≡ All p s → names_path (case_in counts rows) p.0 ≡ true
    unfolding paths_of_shape
    all_path_named e = paths_named p.0 (rw e (first_among p.0 []))

    pub least_path_named : {n : ℕ} {s : Shape} → of.rule ≡ AtLeast n p s → names_path (case_in counts rows) p.0 ≡ true
    unfolding paths_of_shape
    least_path_named e = paths_named p.0 (rw e (first_among p.0 []))

  -- ---- Rows

  pub node_of_counts : {a : ℕ} → a < of.size.nodes → a < counts.nodes
  node_of_counts h = rw i.size_is at h

  pub words_few : 64 * of.size.words < 2 ^ 64
  words_few = rw i.size_is (omega (arith, i.tables.narrow))

  pub size_wide : of.size.nodes ≤ 64 * of.size.words
  size_wide = rw i.size_is i.tables.wide

  pub node_in_words : {a : ℕ} → a < of.size.nodes → a < 64 * of.size.words
  node_in_words h = omega (arith, size_wide)

  pub set_row : {set : List ℕ} {s : ℕ} → 64 ≤ length set → s < counts.shapes → HasRow set of.size.words s
  set_row {s = s} m l = rw i.size_is (record { fits = omega (arith, i.tables.pairs_fit, rows_apart (words_of counts) s counts.shapes l) })

  pub live_row : HasRow sets of.size.words 0
  live_row = rw i.size_is (record { fits = omega (arith, i.tables.set_room, rows_apart (words_of counts) 0 (1 + counts.paths * counts.nodes) (omega arith)) })

  -- the rows of a named path
  pub block_named : (p : ℕ) → names_path (case_in counts rows) p ≡ true → Block sets of.size.nodes of.size.words (1 + p * of.size.nodes)
  unfolding names_path shape_rule
  block_named p named =
      let (s, l, e) = any_in (case_in counts rows).shapes (λ r. any (paths_of_shape r) (λ q. eqb q p)) named in
      let m : s < counts.shapes = omega (arith, i.tables.shape_count) in
      rw i.size_is (block_there i.tables m (i.tables.rule_of s m) p (e _))

  module _ (p : ℕ) {a : ℕ} (named : names_path (case_in counts rows) p ≡ true) (h : a < of.size.nodes) where
    pub filler_row_there : {m : ℕ} → m ≡ 1 + p * of.size.nodes + a → HasRow sets of.size.words m
    filler_row_there e = block_row p (block_named p named) h e

    pub filler_row_small : length sets < 2 ^ 64 → 1 + p * of.size.nodes + a < 2 ^ 64
    filler_row_small l = block_row_small p (block_named p named) h l

  -- ---- Values

  module _ {values valid possible : List ℕ} (v : Proposed counts values valid possible) {a : ℕ} (h : a < of.size.nodes) where
    module _ {s : ℕ} (l : s < counts.shapes) where
      pub value_there : s * of.size.nodes + a < length values
      value_there = rw i.size_is (omega (arith, digits_lt l (node_of_counts h), v.there))

      pub value_small : get_or values (s * of.size.nodes + a) 0 ≤ 2
      value_small = rw i.size_is (v.valued (s * counts.nodes + a) (digits_lt l (node_of_counts h)))

      pub value_valid : member valid of.size.words s a ≡ leb 2 (get_or values (s * of.size.nodes + a) 0)
      value_valid = rw i.size_is (v.valid_set.members s a l (node_of_counts h))

      pub value_possible : member possible of.size.words s a ≡ leb 1 (get_or values (s * of.size.nodes + a) 0)
      value_possible = rw i.size_is (v.possible_set.members s a l (node_of_counts h))
