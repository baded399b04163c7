-- What 15 asks and finds, pair by pair: whether the level of a supported pair is above its support. A function that is handed a rule answers for
-- every case in whose tables the rule is that of its shape. Assumes nothing.
use Rattle.std.specs.Prelude.{ℕ, ◌+◌, ◌*◌, ◌<◌, ◌≤◌, ◌≡◌, Bool, true, Option, List, length, get_or}
use Rattle.bitset.specs.Words.{member}
use Rattle.cases.specs.Faults.{Refusal}
use Rattle.cases.specs.Case.{references}
use Rattle.cases.specs.Rows.{case_in}
use Rattle.cases.specs.declared.command.ShapeRule.{ShapeRule}
use Rattle.cases.specs.declared.counts.Counts.{Counts}
use Rattle.fixpoint.specs.Lists.{up_to}
use Rattle.pairs.specs.Sets.{Threshold}
use Rattle.semantics.specs.Levels.{support_below, justified_at}
use Rattle.semantics.specs.Operations.{first_of, refuse_unless, levels_in}
use Rattle.semantics.specs.Values.{pair_count, supported_at}
use Rattle.cases.specs.declared.ruled.Ruled.{Ruled}
use Rattle.support.specs.Proposals.{Proposed, FirstIn}
use Rattle.support.specs.Rules.{RuleIn}
use Rattle.justifying.specs.Digits.{DigitsUnless}
use Rattle.justifying.specs.LevelRows.{level_at}

-- ---- What is read is there

-- the rule is that of its shape in some case of whose pairs there are levels
pub record LevelsRead (of : Ruled) (sets levels : List ℕ) : Type 0 where
  pub counts : Counts
  pub rows : List ℕ
  pub rule_in : RuleIn counts rows sets of
  pub levels_there : 2 * (counts.shapes * counts.nodes) ≤ length levels

-- the shape that a rule reads at fillers: an all and an at least have one reference
unfoldable pub filled_shape : ShapeRule → ℕ
filled_shape r = get_or (references r) 0 0

-- the digits are those of its levels, if they are worked out
abbrev pub DigitsRead : Ruled → List ℕ → List ℕ → Option ℕ → Type 0
DigitsRead of levels digits used = DigitsUnless levels of.size (filled_shape of.rule) digits used

-- ---- A pair

-- pair k is justified; and 15 of it
abbrev pub justified_in : Counts → List ℕ → List ℕ → List ℕ → ℕ → Bool
justified_in counts rows values levels k = justified_at (case_in counts rows) values (levels_in (pair_count (case_in counts rows)) levels) k

abbrev pub unjustified : Counts → List ℕ → List ℕ → List ℕ → ℕ → Refusal
unjustified counts rows values levels k = refuse_unless (justified_in counts rows values levels k) 15 k

-- the support is below the bound, by the tests
pub record SupportBelow (of : Ruled) (a : ℕ) (sets set levels : List ℕ) (bound : ℕ) (answer : Bool) : Type 0 where
  pub right : (counts : Counts) (rows : List ℕ) → RuleIn counts rows sets of
      → answer ≡ support_below (case_in counts rows) (member set of.size.words) (λ s b. level_at levels (s * of.size.nodes + b)) bound of.rule a

-- the pair at node a is justified, if it is supported, with values of which this is the set of those at least as large as its own
pub record LevelSuffices (of : Ruled) (a : ℕ) (sets set levels : List ℕ) (answer : Bool) : Type 0 where
  pub right : (counts : Counts) (rows : List ℕ) → RuleIn counts rows sets of → (values : List ℕ) (k : ℕ) → k ≡ of.shape.0 * counts.nodes + a
      → 1 ≤ get_or values k 0 → get_or values k 0 ≤ 2 → Threshold counts values (get_or values k 0) set → supported_at (case_in counts rows) values k ≡ true
      → answer ≡ justified_in counts rows values levels k

-- the same, with values whose sets these are
pub record PairJustified (of : Ruled) (a : ℕ) (sets valid possible levels : List ℕ) (answer : Bool) : Type 0 where
  pub right : (counts : Counts) (rows : List ℕ) → RuleIn counts rows sets of → (values : List ℕ) (k : ℕ) → k ≡ of.shape.0 * counts.nodes + a
      → Proposed counts values valid possible → supported_at (case_in counts rows) values k ≡ true → answer ≡ justified_in counts rows values levels k

-- ---- The first of so many supported pairs that is not justified

-- values whose sets these are, so many of whose pairs are supported
pub record PairsSupported (counts : Counts) (rows values valid possible : List ℕ) (pairs : ℕ) : Type 0 where
  pub proposed : Proposed counts values valid possible
  pub each : (k : ℕ) → k < pairs → supported_at (case_in counts rows) values k ≡ true

-- among the pairs of a shape; and among all
pub record RowJustified (of : Ruled) (sets valid possible levels : List ℕ) (pairs : ℕ) (r : Refusal) : Type 0 where
  pub right : (counts : Counts) (rows : List ℕ) → RuleIn counts rows sets of → (values : List ℕ) → PairsSupported counts rows values valid possible pairs
      → FirstIn (unjustified counts rows values levels) (of.shape.0 * counts.nodes) (of.shape.0 * counts.nodes + counts.nodes) pairs r

pub record LevelsChecked (counts : Counts) (rows valid possible levels : List ℕ) (pairs : ℕ) (r : Refusal) : Type 0 where
  pub right : (values : List ℕ) → PairsSupported counts rows values valid possible pairs → r ≡ first_of (up_to pairs) (unjustified counts rows values levels)
