-- What a refusal is; what is at fault with a command, by what has been read before it: the tests behind refusals 2, 4 to 7 and 20.
-- Document 01, "A case, command by command" (limits, order) and "Refusals", Reading; document 02, points 4 and 8. Assumes nothing.
use Rattle.std.specs.Prelude.{ℕ, Bool, true, false, cond, not, ◌&&◌, ◌||◌, List, eqb, leb, ltb}
use Rattle.fixpoint.specs.Lists.{all, any}
use Rattle.cases.specs.declared.command.Command.{Command}
use Rattle.cases.specs.declared.command.Command.TheVariants.{Nodes, End}
use Rattle.cases.specs.declared.command.Command.TheVariants.{Edge as EdgeCommand, Path as PathCommand, Shape as ShapeCommand, Target as TargetCommand}
use Rattle.cases.specs.declared.command.Edge.{Edge}
use Rattle.cases.specs.declared.command.PathRule.{PathRule}
use Rattle.cases.specs.declared.command.ShapeRule.{ShapeRule}
use Rattle.cases.specs.declared.command.ShapeRule.TheVariants.{Top, Node, And, Or, Not, Same, All, AtLeast}
use Rattle.cases.specs.declared.counts.Counts.{Counts}
use Rattle.cases.specs.Case.{edge_is, paths_of_path, paths_of_shape}
use Rattle.cases.specs.Counts.{node_limit, edge_limit, path_limit, shape_limit, target_limit}

-- a refusal is a document's number and the place; the number 0 stands for none
pub record Refusal : Type 0 where
  pub number : ℕ
  pub place : ℕ

abbrev pub no_refusal : Refusal
no_refusal = record { number = 0; place = 0 }

-- one 01 first, then edges, paths, shapes, targets, one FF last: last is the group of the command before, 0 at the start. A 00, of group 0, is
-- in order nowhere: the one that may stand before 01 is read before these
abbrev pub in_order : ℕ → ℕ → Bool
in_order last group = cond (eqb last 0) (eqb group 1) (cond (eqb group 1) false (leb last group))

-- 4: the node count, or one more command of the group, is within the profile's limit
abbrev pub within_limit : ℕ → Counts → Command → Bool
within_limit profile k (Nodes n) = leb n (node_limit profile)
within_limit profile k (EdgeCommand e) = ltb k.edges edge_limit
within_limit profile k (PathCommand r) = ltb k.paths path_limit
within_limit profile k (ShapeCommand r) = ltb k.shapes (shape_limit profile)
within_limit profile k (TargetCommand t) = ltb k.targets target_limit
within_limit profile k End = true

-- 5: node operands are below the node count
unfoldable pub shape_nodes_known : ℕ → ShapeRule → Bool
shape_nodes_known nodes Top = true
shape_nodes_known nodes (Node a) = ltb a.0 nodes
shape_nodes_known nodes (And s t) = true
shape_nodes_known nodes (Or s t) = true
shape_nodes_known nodes (Not s) = true
shape_nodes_known nodes (Same p q) = true
shape_nodes_known nodes (All p s) = true
shape_nodes_known nodes (AtLeast n p s) = true

abbrev pub nodes_known : Counts → Command → Bool
nodes_known k (Nodes n) = true
nodes_known k (EdgeCommand e) = ltb e.subject.0 k.nodes && ltb e.object.0 k.nodes
nodes_known k (PathCommand r) = true
nodes_known k (ShapeCommand r) = shape_nodes_known k.nodes r
nodes_known k (TargetCommand t) = ltb t.node.0 k.nodes
nodes_known k End = true

-- 6: path operands name paths that stand earlier in the case
unfoldable pub path_paths_earlier : ℕ → PathRule → Bool
path_paths_earlier paths r = all (paths_of_path r) (λ p. ltb p paths)

unfoldable pub shape_paths_earlier : ℕ → ShapeRule → Bool
shape_paths_earlier paths r = all (paths_of_shape r) (λ p. ltb p paths)

abbrev pub paths_earlier : Counts → Command → Bool
paths_earlier k (Nodes n) = true
paths_earlier k (EdgeCommand e) = true
paths_earlier k (PathCommand r) = path_paths_earlier k.paths r
paths_earlier k (ShapeCommand r) = shape_paths_earlier k.paths r
paths_earlier k (TargetCommand t) = true
paths_earlier k End = true

-- 7: a least number is at least 1
abbrev pub shape_least_positive : ShapeRule → Bool
shape_least_positive Top = true
shape_least_positive (Node a) = true
shape_least_positive (And s t) = true
shape_least_positive (Or s t) = true
shape_least_positive (Not s) = true
shape_least_positive (Same p q) = true
shape_least_positive (All p s) = true
shape_least_positive (AtLeast n p s) = leb 1 n

abbrev pub least_positive : Command → Bool
least_positive (Nodes n) = true
least_positive (EdgeCommand e) = true
least_positive (PathCommand r) = true
least_positive (ShapeCommand r) = shape_least_positive r
least_positive (TargetCommand t) = true
least_positive End = true

-- 20: the edge that a 03 parks stands earlier, in an 02 with the same operands, parked or not
unfoldable pub laid : List Edge → Edge → Bool
laid edges e = any edges (edge_is 0x02 e.property.0 e.subject.0 e.object.0)

abbrev pub edge_there : List Edge → Command → Bool
edge_there edges (Nodes n) = true
edge_there edges (EdgeCommand e) = not (eqb e.code 0x03) || laid edges e
edge_there edges (PathCommand r) = true
edge_there edges (ShapeCommand r) = true
edge_there edges (TargetCommand t) = true
edge_there edges End = true
