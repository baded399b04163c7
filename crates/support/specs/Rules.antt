-- A shape of a case with its rule, and the value that the rule gives a pair. A function that is handed a rule sees no case: what it answers is
-- said of every case in whose tables the rule is that of its shape. Assumes nothing.
use Rattle.std.specs.Prelude.{ℕ, ◌+◌, ◌*◌, ◌<◌, ◌≡◌, List}
use Rattle.cases.specs.Counts.{size_of}
use Rattle.cases.specs.Rows.{case_in, shape_in}
use Rattle.cases.specs.declared.counts.Counts.{Counts}
use Rattle.fillers.specs.CaseTables.{Tables}
use Rattle.semantics.specs.Values.{entry_at, rule_value, pair_value}
use Rattle.cases.specs.declared.ruled.Ruled.{Ruled}

-- the shape is one of the case in the tables, and the rule and the size are those there
pub record RuleIn (counts : Counts) (rows sets : List ℕ) (of : Ruled) : Type 0 where
  pub tables : Tables counts rows sets
  pub below : of.shape.0 < counts.shapes
  pub rule_is : of.rule ≡ shape_in rows of.shape.0
  pub size_is : of.size ≡ size_of counts

-- the rule's value at a live node; and the pair's, 0 where the node is not live
pub record RuleGives (of : Ruled) (a : ℕ) (sets values : List ℕ) (value : ℕ) : Type 0 where
  pub right : (counts : Counts) (rows : List ℕ) → RuleIn counts rows sets of → value ≡ rule_value (case_in counts rows) (entry_at (case_in counts rows) values) of.rule a

pub record PairGives (of : Ruled) (a : ℕ) (sets values : List ℕ) (value : ℕ) : Type 0 where
  pub right : (counts : Counts) (rows : List ℕ) → RuleIn counts rows sets of → value ≡ pair_value (case_in counts rows) values (of.shape.0 * counts.nodes + a)
