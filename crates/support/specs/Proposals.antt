-- What is asked of proposed values and found in them: 13, and 14 pair by pair. Assumes nothing.
use Rattle.std.specs.Prelude.{ℕ, ◌+◌, ◌*◌, ◌<◌, ◌≤◌, ◌≡◌, List, length, get_or}
use Rattle.cases.specs.Faults.{Refusal}
use Rattle.cases.specs.Rows.{case_in}
use Rattle.cases.specs.declared.counts.Counts.{Counts}
use Rattle.fixpoint.specs.Lists.{up_to}
use Rattle.pairs.specs.Sets.{Threshold}
use Rattle.semantics.specs.Operations.{first_of, refuse, refuse_unless}
use Rattle.semantics.specs.Values.{byte_says, said_number, supported_at}
use Rattle.cases.specs.declared.ruled.Ruled.{Ruled}
use Rattle.support.specs.Rules.{RuleIn}

-- 13: the first of so many pairs whose byte says no value
abbrev pub value_fault_in : List ℕ → ℕ → Refusal
value_fault_in values pairs = first_of (up_to pairs) (λ k. refuse (said_number (byte_says (get_or values k 0))) k)

-- every number is a value, and the tables are the sets of the valid and of the possible pairs
pub record Proposed (counts : Counts) (values valid possible : List ℕ) : Type 0 where
  pub there : counts.shapes * counts.nodes ≤ length values
  pub valued : (k : ℕ) → k < counts.shapes * counts.nodes → get_or values k 0 ≤ 2
  pub valid_set : Threshold counts values 2 valid
  pub possible_set : Threshold counts values 1 possible

-- they are where 13 refuses none
pub record ProposedUnless (counts : Counts) (values valid possible : List ℕ) (r : Refusal) : Type 0 where
  pub fault : r ≡ value_fault_in values (counts.shapes * counts.nodes)
  pub proposed : r.number ≡ 0 → Proposed counts values valid possible

-- the rule is that of its shape in some case for which the values are proposed: all that it reads is there
pub record ValuesRead (of : Ruled) (sets values valid possible : List ℕ) : Type 0 where
  pub counts : Counts
  pub rows : List ℕ
  pub rule_in : RuleIn counts rows sets of
  pub proposed : Proposed counts values valid possible

-- r is the first refusal of f from a number on, below an end and so many pairs; where there is none, it refuses nothing
pub record FirstIn (f : ℕ → Refusal) (from end pairs : ℕ) (r : Refusal) : Type 0 where
  pub none : r.number ≡ 0 → (k : ℕ) → from ≤ k → k < end → k < pairs → (f k).number ≡ 0
  pub first : (r.number ≡ 0 → ⊥) → (k : ℕ) × (from ≤ k) × (k < end) × (k < pairs) × (r ≡ f k) × ((j : ℕ) → from ≤ j → j < k → (f j).number ≡ 0)

-- 14 of pair k
abbrev pub unsupported : Counts → List ℕ → List ℕ → ℕ → Refusal
unsupported counts rows values k = refuse_unless (supported_at (case_in counts rows) values k) 14 k

-- the first pair of the shape that is not supported
pub record RowSupported (of : Ruled) (sets values : List ℕ) (r : Refusal) : Type 0 where
  pub right : (counts : Counts) (rows : List ℕ) → RuleIn counts rows sets of
      → FirstIn (unsupported counts rows values) (of.shape.0 * counts.nodes) (of.shape.0 * counts.nodes + counts.nodes) (counts.shapes * counts.nodes) r
