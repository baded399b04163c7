-- The starred samples of document 01, "Samples", and some of document 02, points 2, 4, 6 and 9: what each says, and a table of each. Assumes nothing.
use Rattle.std.specs.Prelude.{ℕ, zero, suc, ◌<◌, ◌≡◌, Bool, List, [], ◌∷◌, ◌++◌, length, get_or, ltb}
use Rattle.fixpoint.specs.Sets.{others}
use Rattle.fixpoint.specs.Stages.{RoundsCounted}
use Rattle.cases.specs.declared.command.ShapeRule.{ShapeRule}
use Rattle.cases.specs.declared.command.ShapeRule.TheVariants.{Top, Node, And, Not, AtLeast}
use Rattle.cases.specs.declared.numbers.Shape.{Shape}
use Rattle.semantics.specs.declared.answers.Solution.{Solution}
use Rattle.semantics.specs.declared.answers.Checked.{Checked}
use Rattle.semantics.specs.declared.answers.CheckedOld.{CheckedOld}
use Rattle.semantics.specs.declared.answers.Ranked.{Ranked}
use Rattle.semantics.specs.Values
use Rattle.semantics.specs.Stability
use Rattle.semantics.specs.Operations
use Rattle.semantics.specs.OldCode
use Rattle.semantics.specs.Groups
use Rattle.theorems.specs.Groups.{ReadsGroup}

-- ---- What a sample says; the first argument is the case in bytes

pub data Sample : Type 0 where
  -- what solving answers and leaves in the three tables
  solves : List ℕ → Solution → (values levels verdicts : List ℕ) → Sample
  -- what checking answers for a proposal
  checks : List ℕ → (values levels : List ℕ) → Checked → Sample
  -- what checking under the old code answers for a proposal
  checks_old : List ℕ → (values : List ℕ) → CheckedOld → Sample
  -- what ranking answers and leaves in the table
  ranks : List ℕ → Ranked → (strata : List ℕ) → Sample
  -- the shapes of the case
  expands : List ℕ → (shapes : List ShapeRule) → Sample
  -- the values of a stable assignment, which every stable assignment has
  only_stable : List ℕ → (values : List ℕ) → Sample
  -- the values of an assignment that is not stable
  unstable : List ℕ → (values : List ℕ) → Sample
  -- a group that no edge joins to the other, the cases with only its edges and with only the other's, and the rounds of both groups
  splits : List ℕ → (group : ℕ → Bool) → (ours theirs : List ℕ) → (rounds other_rounds : ℕ) → Sample

-- a table as it is lent: n bytes of EE, which nothing writes
unfoldable pub lent : ℕ → List ℕ
lent zero = []
lent (suc n) = 0xee ∷ lent n

-- levels below 256 as bytes, two each, low first
unfoldable pub small_level_bytes : List ℕ → List ℕ
small_level_bytes [] = []
small_level_bytes (x ∷ l) = x ∷ 0 ∷ small_level_bytes l

unfoldable pub after_solving : List ℕ → List ℕ → List ℕ → List ℕ → Solution × List ℕ × List ℕ × List ℕ
after_solving s vt lt dt = (
  Operations.solve_answer s vt lt dt,
  Operations.solve_values s vt lt dt,
  Operations.solve_levels s vt lt dt,
  Operations.solve_verdicts s vt lt dt,
)

unfoldable pub after_ranking : List ℕ → List ℕ → Ranked × List ℕ
after_ranking s table = (Operations.rank_answer s table, Operations.rank_strata s table)

pub record OnlyStable (s values : List ℕ) : Type 0 where
  pub is_stable : Stability.StableAssignment (Operations.case_of s) values
  pub no_other : (v : List ℕ) → Stability.StableAssignment (Operations.case_of s) v → (k : ℕ) → k < Values.pair_count (Operations.case_of s) → get_or v k 0 ≡ get_or values k 0

pub record SplitsInto (s : List ℕ) (group : ℕ → Bool) (ours theirs : List ℕ) (rounds other_rounds : ℕ) : Type 0 where
  pub apart : Groups.Apart (Operations.case_of s) group
  pub reads_ours : ReadsGroup s group ours
  pub reads_theirs : ReadsGroup s (others group) theirs
  pub ours_counted : RoundsCounted (Groups.group_t (Operations.case_of s) group) rounds
  pub theirs_counted : RoundsCounted (Groups.group_t (Operations.case_of s) (others group)) other_rounds

-- the tables to be written are lent as long as they have to be
abbrev pub Passes : Sample → Type 0
Passes (solves s answer values levels verdicts) =
    after_solving s (lent (length values)) (lent (length (small_level_bytes levels))) (lent (length verdicts))
    ≡ (answer, values, small_level_bytes levels, verdicts)
Passes (checks s values levels answer) = Operations.check_answer s values (small_level_bytes levels) ≡ answer
Passes (checks_old s values answer) = OldCode.old_answer s values ≡ answer
Passes (ranks s answer strata) = after_ranking s (lent (length strata)) ≡ (answer, strata)
Passes (expands s shapes) = (Operations.case_of s).shapes ≡ shapes
Passes (only_stable s values) = OnlyStable s values
Passes (unstable s values) = Stability.StableAssignment (Operations.case_of s) values → ⊥
Passes (splits s group ours theirs m n) = SplitsInto s group ours theirs m n

abbrev pub AllPass : List Sample → Type 0
AllPass [] = Unit {0}
AllPass (x ∷ l) = Passes x × AllPass l

-- ---- The cases

unfoldable pub ring : List ℕ
ring =
    0x01 ∷ 0x04 ∷ 0x00
    ∷ 0x02 ∷ 0x00 ∷ 0x01 ∷ 0x00 ∷ 0x00 ∷ 0x00
    ∷ 0x02 ∷ 0x00 ∷ 0x02 ∷ 0x00 ∷ 0x03 ∷ 0x00
    ∷ 0x02 ∷ 0x00 ∷ 0x03 ∷ 0x00 ∷ 0x02 ∷ 0x00
    ∷ 0x02 ∷ 0x01 ∷ 0x00 ∷ 0x00 ∷ 0x00 ∷ 0x00
    ∷ 0x10 ∷ 0x00 ∷ 0x10 ∷ 0x01
    ∷ 0x20 ∷ 0x27 ∷ 0x01 ∷ 0x01 ∷ 0x00 ∷ 0x27 ∷ 0x01 ∷ 0x00 ∷ 0x03 ∷ 0x23 ∷ 0x01 ∷ 0x02 ∷ 0x24 ∷ 0x03
    ∷ 0x30 ∷ 0x03 ∷ 0x01 ∷ 0x00 ∷ 0x30 ∷ 0x03 ∷ 0x02 ∷ 0x00
    ∷ 0xff ∷ []

-- the ring's proposal: nodes 2 and 3 only vouch for each other
unfoldable pub vouched : List ℕ
vouched = 2 ∷ 2 ∷ 2 ∷ 2 ∷ 2 ∷ 0 ∷ 0 ∷ 0 ∷ 0 ∷ 2 ∷ 2 ∷ 2 ∷ 2 ∷ 2 ∷ 2 ∷ 2 ∷ 0 ∷ 0 ∷ 0 ∷ 0 ∷ []

-- one node, with an edge to itself, and these shapes
unfoldable pub one_node : List ℕ → List ℕ
one_node shapes = 0x01 ∷ 0x01 ∷ 0x00 ∷ 0x02 ∷ 0x00 ∷ 0x00 ∷ 0x00 ∷ 0x00 ∷ 0x00 ∷ shapes

unfoldable pub clash : List ℕ
clash = one_node (0x24 ∷ 0x01 ∷ 0x24 ∷ 0x00 ∷ 0xff ∷ [])

unfoldable pub not_itself_case : List ℕ
not_itself_case = one_node (0x24 ∷ 0x00 ∷ 0xff ∷ [])

unfoldable pub or_itself : List ℕ
or_itself = one_node (0x23 ∷ 0x00 ∷ 0x00 ∷ 0xff ∷ [])

-- properties 0 and 1 both lead from node 0 to node 1; path 2 is the union
unfoldable pub two_paths : List ℕ
two_paths =
    0x01 ∷ 0x02 ∷ 0x00
    ∷ 0x02 ∷ 0x00 ∷ 0x00 ∷ 0x00 ∷ 0x01 ∷ 0x00
    ∷ 0x02 ∷ 0x01 ∷ 0x00 ∷ 0x00 ∷ 0x01 ∷ 0x00
    ∷ 0x10 ∷ 0x00 ∷ 0x10 ∷ 0x01 ∷ 0x12 ∷ 0x00 ∷ 0x01
    ∷ 0x20 ∷ 0x27 ∷ 0x01 ∷ 0x02 ∷ 0x00 ∷ 0x27 ∷ 0x02 ∷ 0x02 ∷ 0x00
    ∷ 0xff ∷ []

-- node 2 stands in no edge and is live as well; no edge has the path's property
unfoldable pub no_fillers : List ℕ
no_fillers =
    0x01 ∷ 0x03 ∷ 0x00
    ∷ 0x02 ∷ 0x00 ∷ 0x00 ∷ 0x00 ∷ 0x01 ∷ 0x00
    ∷ 0x10 ∷ 0x01
    ∷ 0x20 ∷ 0x26 ∷ 0x00 ∷ 0x00
    ∷ 0xff ∷ []

-- an edge from node 0 to node 1 is laid, parked twice and laid again; shape 1 asks for a neighbour on path 0, which goes on, shape 2 for one on
-- path 1, which goes back
unfoldable pub parked : List ℕ
parked =
    0x01 ∷ 0x02 ∷ 0x00
    ∷ 0x02 ∷ 0x00 ∷ 0x00 ∷ 0x00 ∷ 0x01 ∷ 0x00
    ∷ 0x03 ∷ 0x00 ∷ 0x00 ∷ 0x00 ∷ 0x01 ∷ 0x00
    ∷ 0x03 ∷ 0x00 ∷ 0x00 ∷ 0x00 ∷ 0x01 ∷ 0x00
    ∷ 0x02 ∷ 0x00 ∷ 0x00 ∷ 0x00 ∷ 0x01 ∷ 0x00
    ∷ 0x10 ∷ 0x00 ∷ 0x11 ∷ 0x00
    ∷ 0x20 ∷ 0x27 ∷ 0x01 ∷ 0x00 ∷ 0x00 ∷ 0x27 ∷ 0x01 ∷ 0x01 ∷ 0x00
    ∷ 0xff ∷ []

-- one edge, from node 0 to node 1, and a rule inside rules: shape 0 is top, shape 1 in one command "not not shape 0, and at most 0 neighbours
-- that are node 1"
unfoldable pub nested : List ℕ
nested =
    0x01 ∷ 0x02 ∷ 0x00
    ∷ 0x02 ∷ 0x00 ∷ 0x00 ∷ 0x00 ∷ 0x01 ∷ 0x00
    ∷ 0x10 ∷ 0x00
    ∷ 0x20
    ∷ 0x28 ∷ 0x22 ∷ 0x24 ∷ 0x24 ∷ 0x29 ∷ 0x00 ∷ 0x2a ∷ 0x00 ∷ 0x00 ∷ 0x21 ∷ 0x01 ∷ 0x00
    ∷ 0x30 ∷ 0x01 ∷ 0x00 ∷ 0x00 ∷ 0x30 ∷ 0x01 ∷ 0x01 ∷ 0x00
    ∷ 0xff ∷ []

-- two roads, nodes 0 and 1 and nodes 2 and 3, with these edges: shape 0 says of every neighbour that it does not have shape 0, and shape 2
-- is a double not of it; shape 3 is node 0
unfoldable pub roads : List ℕ → List ℕ
roads edges =
    0x01 ∷ 0x04 ∷ 0x00 ∷ edges
    ++ (0x10 ∷ 0x00
    ∷ 0x26 ∷ 0x00 ∷ 0x01 ∷ 0x24 ∷ 0x00 ∷ 0x24 ∷ 0x01 ∷ 0x21 ∷ 0x00 ∷ 0x00
    ∷ 0x30 ∷ 0x00 ∷ 0x00 ∷ 0x00 ∷ 0x30 ∷ 0x03 ∷ 0x00 ∷ 0x00 ∷ 0x30 ∷ 0x02 ∷ 0x02 ∷ 0x00
    ∷ 0xff ∷ [])

-- nodes a and a + 1 are each other's neighbour, and an edge from a to itself is parked
unfoldable pub road : ℕ → List ℕ
road a =
    0x02 ∷ 0x00 ∷ a ∷ 0x00 ∷ suc a ∷ 0x00
    ∷ 0x02 ∷ 0x00 ∷ suc a ∷ 0x00 ∷ a ∷ 0x00
    ∷ 0x02 ∷ 0x00 ∷ a ∷ 0x00 ∷ a ∷ 0x00
    ∷ 0x03 ∷ 0x00 ∷ a ∷ 0x00 ∷ a ∷ 0x00
    ∷ []

-- ---- The table

abbrev shape : ℕ → Shape
shape s = record { 0 = s }

-- solved: rounds, valid and undetermined pairs, targets sure, open and impossible
abbrev solution : (rounds valid undetermined sure opened impossible : ℕ) → Solution
solution r v u s o i =
    record { number = 0; place = 0; rounds = r; valid = v; undetermined = u; sure = s; «open» = o; impossible = i }

-- checked, with no undetermined pair and no valid target: number and place
abbrev checked : (number place : ℕ) → Checked
checked n p = record { number = n; place = p; undetermined = 0; valid = 0 }

-- in the document's order
unfoldable pub starred_samples : List Sample
starred_samples =
    solves ring (solution 2 10 0 1 0 1)
    (2 ∷ 2 ∷ 2 ∷ 2 ∷ 2 ∷ 0 ∷ 0 ∷ 0 ∷ 0 ∷ 2 ∷ 0 ∷ 0 ∷ 2 ∷ 2 ∷ 0 ∷ 0 ∷ 0 ∷ 0 ∷ 2 ∷ 2 ∷ [])
    (1 ∷ 1 ∷ 1 ∷ 1 ∷ 2 ∷ 0 ∷ 0 ∷ 0 ∷ 0 ∷ 4 ∷ 0 ∷ 0 ∷ 3 ∷ 5 ∷ 0 ∷ 0 ∷ 0 ∷ 0 ∷ 1 ∷ 1 ∷ [])
    (2 ∷ 0 ∷ [])
    ∷ checks ring vouched
    (1 ∷ 1 ∷ 1 ∷ 1 ∷ 2 ∷ 0 ∷ 0 ∷ 0 ∷ 0 ∷ 4 ∷ 9 ∷ 9 ∷ 3 ∷ 5 ∷ 5 ∷ 5 ∷ 0 ∷ 0 ∷ 0 ∷ 0 ∷ [])
    (checked 15 14)
    ∷ solves clash (solution 1 0 2 0 0 0) (1 ∷ 1 ∷ []) (1 ∷ 1 ∷ []) []
    ∷ checks clash (2 ∷ 0 ∷ []) (1 ∷ 0 ∷ []) (checked 0 0)
    ∷ checks clash (0 ∷ 2 ∷ []) (0 ∷ 1 ∷ []) (checked 0 0)
    ∷ checks clash (2 ∷ 2 ∷ []) (1 ∷ 1 ∷ []) (checked 14 0)
    ∷ ranks clash (record { number = 17; place = 0; strata = 0 }) (lent 2)
    ∷ only_stable not_itself_case (1 ∷ [])
    ∷ solves or_itself (solution 1 0 0 0 0 0) (0 ∷ []) (0 ∷ []) []
    ∷ solves two_paths (solution 2 3 0 0 0 0) (2 ∷ 2 ∷ 2 ∷ 0 ∷ 0 ∷ 0 ∷ []) (1 ∷ 1 ∷ 2 ∷ 0 ∷ 0 ∷ 0 ∷ []) []
    ∷ solves no_fillers (solution 2 6 0 0 0 0) (2 ∷ 2 ∷ 2 ∷ 2 ∷ 2 ∷ 2 ∷ []) (1 ∷ 1 ∷ 1 ∷ 1 ∷ 1 ∷ 1 ∷ []) []
    ∷ []

-- the old code takes the ring's proposal, which is not stable; the rule inside rules: both nots stay, and the at most makes a not and an at
-- least; the parked edge; the two roads, together and each by itself, where the other's nodes have no edge and rest later
unfoldable pub requested_samples : List Sample
requested_samples =
    checks_old ring vouched (record { number = 0; place = 0; undetermined = 0; valid = 2; code = 1 })
    ∷ unstable ring vouched
    ∷ expands nested
    (Top ∷ And (shape 2) (shape 4) ∷ Not (shape 3) ∷ Not (shape 0) ∷ Not (shape 5) ∷ AtLeast 1 (record { 0 = 0 }) (shape 6) ∷ Node (record { 0 = 1 }) ∷ [])
    ∷ solves nested (solution 3 8 0 1 0 1)
    (2 ∷ 2 ∷ 0 ∷ 2 ∷ 2 ∷ 2 ∷ 0 ∷ 0 ∷ 0 ∷ 2 ∷ 2 ∷ 0 ∷ 0 ∷ 2 ∷ [])
    (1 ∷ 1 ∷ 0 ∷ 2 ∷ 1 ∷ 1 ∷ 0 ∷ 0 ∷ 0 ∷ 1 ∷ 2 ∷ 0 ∷ 0 ∷ 1 ∷ [])
    (0 ∷ 2 ∷ [])
    ∷ solves parked (solution 2 2 0 0 0 0) (2 ∷ 2 ∷ 0 ∷ 0 ∷ 0 ∷ 0 ∷ []) (1 ∷ 1 ∷ 0 ∷ 0 ∷ 0 ∷ 0 ∷ []) []
    ∷ solves (roads (road 0 ++ road 2)) (solution 2 1 12 1 2 0)
    (1 ∷ 1 ∷ 1 ∷ 1 ∷ 1 ∷ 1 ∷ 1 ∷ 1 ∷ 1 ∷ 1 ∷ 1 ∷ 1 ∷ 2 ∷ 0 ∷ 0 ∷ 0 ∷ [])
    (3 ∷ 3 ∷ 3 ∷ 3 ∷ 2 ∷ 2 ∷ 2 ∷ 2 ∷ 2 ∷ 2 ∷ 2 ∷ 2 ∷ 1 ∷ 0 ∷ 0 ∷ 0 ∷ [])
    (1 ∷ 2 ∷ 1 ∷ [])
    ∷ solves (roads (road 0)) (solution 3 5 6 2 1 0)
    (1 ∷ 1 ∷ 2 ∷ 2 ∷ 1 ∷ 1 ∷ 0 ∷ 0 ∷ 1 ∷ 1 ∷ 2 ∷ 2 ∷ 2 ∷ 0 ∷ 0 ∷ 0 ∷ [])
    (3 ∷ 3 ∷ 1 ∷ 1 ∷ 2 ∷ 2 ∷ 0 ∷ 0 ∷ 2 ∷ 2 ∷ 1 ∷ 1 ∷ 1 ∷ 0 ∷ 0 ∷ 0 ∷ [])
    (1 ∷ 2 ∷ 2 ∷ [])
    ∷ solves (roads (road 2)) (solution 3 5 6 2 1 0)
    (2 ∷ 2 ∷ 1 ∷ 1 ∷ 0 ∷ 0 ∷ 1 ∷ 1 ∷ 2 ∷ 2 ∷ 1 ∷ 1 ∷ 2 ∷ 0 ∷ 0 ∷ 0 ∷ [])
    (1 ∷ 1 ∷ 3 ∷ 3 ∷ 0 ∷ 0 ∷ 2 ∷ 2 ∷ 1 ∷ 1 ∷ 2 ∷ 2 ∷ 1 ∷ 0 ∷ 0 ∷ 0 ∷ [])
    (2 ∷ 2 ∷ 1 ∷ [])
    ∷ splits (roads (road 0 ++ road 2)) (λ a. ltb a 2) (roads (road 0)) (roads (road 2)) 2 1
    ∷ []
