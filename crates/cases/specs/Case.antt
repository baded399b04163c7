-- A case: graph, paths, shapes, targets, and what its rules name. Document 01, "A case, command by command". Assumes nothing.
use Rattle.std.specs.Prelude.{ℕ, Bool, ◌&&◌, List, [], ◌∷◌, length, get_or, eqb}
use Rattle.cases.specs.declared.command.Edge.{Edge}
use Rattle.cases.specs.declared.command.Target.{Target}
use Rattle.cases.specs.declared.command.PathRule.{PathRule}
use Rattle.cases.specs.declared.command.PathRule.TheVariants.{Forward, Backward, Union, Sequence, Star}
use Rattle.cases.specs.declared.command.ShapeRule.{ShapeRule}
use Rattle.cases.specs.declared.command.ShapeRule.TheVariants.{Top, Node, And, Or, Not, Same, All, AtLeast}
use Rattle.cases.specs.declared.counts.Counts.{Counts}

-- nodes, paths and shapes are numbered from 0 as they come; repeated edges and targets are kept, and so are the commands that park an edge
pub record Case : Type 0 where
  pub nodes : ℕ
  pub edges : List Edge
  pub paths : List PathRule
  pub shapes : List ShapeRule
  pub targets : List Target

unfoldable pub empty_case : Case
empty_case = record { nodes = 0; edges = []; paths = []; shapes = []; targets = [] }

-- the counts of nodes, edges, paths, shapes and targets, repeats included
unfoldable pub counts_of : Case → Counts
counts_of c =
    record {
      nodes = c.nodes;
      edges = length c.edges;
      paths = length c.paths;
      shapes = length c.shapes;
      targets = length c.targets;
    }

-- an edge command of this byte, 02 or 03, with these operands
unfoldable pub edge_is : ℕ → ℕ → ℕ → ℕ → Edge → Bool
edge_is code p a b e = eqb e.code code && (eqb e.property.0 p && (eqb e.subject.0 a && eqb e.object.0 b))

-- the rule of the path with a number; a number not in the case has no fillers
unfoldable pub path_rule : Case → ℕ → PathRule
path_rule c p = get_or c.paths p (Union (record { 0 = p }) (record { 0 = p }))

-- the rule of the shape with a number; a number not in the case holds at no node
unfoldable pub shape_rule : Case → ℕ → ShapeRule
shape_rule c s = get_or c.shapes s (Node (record { 0 = c.nodes }))

-- the path operands of a path and of a shape
unfoldable pub paths_of_path : PathRule → List ℕ
paths_of_path (Forward p) = []
paths_of_path (Backward p) = []
paths_of_path (Union p q) = p.0 ∷ q.0 ∷ []
paths_of_path (Sequence p q) = p.0 ∷ q.0 ∷ []
paths_of_path (Star p) = p.0 ∷ []

unfoldable pub paths_of_shape : ShapeRule → List ℕ
paths_of_shape Top = []
paths_of_shape (Node a) = []
paths_of_shape (And s t) = []
paths_of_shape (Or s t) = []
paths_of_shape (Not s) = []
paths_of_shape (Same p q) = p.0 ∷ q.0 ∷ []
paths_of_shape (All p s) = p.0 ∷ []
paths_of_shape (AtLeast n p s) = p.0 ∷ []

-- a shape's references: the shape operands of its rule
unfoldable pub references : ShapeRule → List ℕ
references Top = []
references (Node a) = []
references (And s t) = s.0 ∷ t.0 ∷ []
references (Or s t) = s.0 ∷ t.0 ∷ []
references (Not s) = s.0 ∷ []
references (Same p q) = []
references (All p s) = s.0 ∷ []
references (AtLeast n p s) = s.0 ∷ []
