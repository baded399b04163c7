-- Pairs, the three values, and the value that a rule gives. Document 01, "Values". Assumes nothing.
use Rattle.std.specs.Prelude.{ℕ, ◌+◌, ◌-◌, ◌*◌, ◌/◌, ◌%◌, min, max, Bool, cond, ◌&&◌, List, map, length, get_or, Result, Ok, Err, eqb, leb}
use Rattle.fixpoint.specs.Lists.{up_to, all, smallest, nth_largest}
use Rattle.cases.specs.Case.{Case, shape_rule}
use Rattle.cases.specs.declared.command.ShapeRule.{ShapeRule}
use Rattle.cases.specs.declared.command.ShapeRule.TheVariants.{Top, Node, And, Or, Not, Same, All, AtLeast}
use Rattle.cases.specs.declared.refusals.Fault.{Fault}
use Rattle.cases.specs.declared.refusals.Fault.TheVariants.{NoValue}
use Rattle.semantics.specs.declared.value.Value.{Value}
use Rattle.semantics.specs.Paths.{live, fillers, same_fillers}

-- ---- "A value is 0 violated, 1 undetermined or 2 valid."

-- what a byte says: one of the three values, or none where it is above 2
pub data Said : Type 0 where
  Is : Value → Said
  Above : Said

unfoldable pub byte_says : ℕ → Said
byte_says b = cond (leb b 2) (Is (record { 0 = b })) Above

-- the number of each of these answers: 13 for a byte above 2; and the value
abbrev pub said_number : Said → ℕ
said_number (Is v) = 0
said_number Above = 13

abbrev pub said_value : Said → ℕ
said_value (Is v) = v.0
said_value Above = 0

-- what the code answers for it
abbrev pub said_value_or_fault : Said → Result Value Fault
said_value_or_fault (Is v) = Ok v
said_value_or_fault Above = Err NoValue

-- ---- "A pair is a shape and a node, in order shape × nodes + node; the pair count is shapes × nodes."

unfoldable pub pair_count : Case → ℕ
pair_count c = length c.shapes * c.nodes

unfoldable pub pair_of : Case → ℕ → ℕ → ℕ
pair_of c s a = s * c.nodes + a

unfoldable pub shape_of : Case → ℕ → ℕ
shape_of c k = k / c.nodes

unfoldable pub node_of : Case → ℕ → ℕ
node_of c k = k % c.nodes

-- the entry of shape s at node a in a list by pair: an assignment's value, or a level
unfoldable pub entry_at : Case → List ℕ → ℕ → ℕ → ℕ
entry_at c v s a = get_or v (pair_of c s a) 0

-- the number of pair k is a value; an assignment gives each pair one
unfoldable pub is_value : List ℕ → ℕ → Bool
is_value v k = leb (get_or v k 0) 2

unfoldable pub valued : Case → List ℕ → Bool
valued c v = all (up_to (pair_count c)) (is_value v)

-- ---- The rule's value

-- at a live node a, where v gives the values of shapes at nodes
unfoldable pub rule_value : Case → (ℕ → ℕ → ℕ) → ShapeRule → ℕ → ℕ
rule_value c v Top a = 2
rule_value c v (Node b) a = cond (eqb b.0 a) 2 0
rule_value c v (And s t) a = min (v s.0 a) (v t.0 a)
rule_value c v (Or s t) a = max (v s.0 a) (v t.0 a)
rule_value c v (Not s) a = 2 - v s.0 a
rule_value c v (Same p q) a = cond (same_fillers c p.0 q.0 a) 2 0
rule_value c v (All p s) a = smallest 2 (map (v s.0) (fillers c p.0 a))
rule_value c v (AtLeast n p s) a = nth_largest n (map (v s.0) (fillers c p.0 a))

-- "At a node that isn't live the rule's value is 0."
unfoldable pub pair_value : Case → List ℕ → ℕ → ℕ
pair_value c v k =
    cond (live c (node_of c k)) (rule_value c (entry_at c v) (shape_rule c (shape_of c k)) (node_of c k)) 0

-- "An assignment is supported if each pair has its rule's value."
unfoldable pub supported_at : Case → List ℕ → ℕ → Bool
supported_at c v k = eqb (get_or v k 0) (pair_value c v k)

unfoldable pub supported : Case → List ℕ → Bool
supported c v = valued c v && all (up_to (pair_count c)) (supported_at c v)
