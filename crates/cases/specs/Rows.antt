-- The case that a table of rows and counts hold. No part of document 01: inner functions are stated with it. Assumes nothing.
use Rattle.std.specs.Prelude.{ℕ, ◌+◌, ◌*◌, ◌≤◌, List, map, length, get_or, set}
use Rattle.fixpoint.specs.Lists.{up_to}
use Rattle.cases.specs.declared.command.Edge.{Edge}
use Rattle.cases.specs.declared.command.PathRule.{PathRule}
use Rattle.cases.specs.declared.command.Row.{Row}
use Rattle.cases.specs.declared.command.ShapeRule.{ShapeRule}
use Rattle.cases.specs.declared.command.Target.{Target}
use Rattle.cases.specs.declared.counts.Counts.{Counts}
use Rattle.cases.specs.Case.{Case}
use Rattle.cases.specs.Counts.{Fit}
use Rattle.cases.specs.Format.{edge_of, path_rule_of, shape_rule_of, target_of}
use Rattle.cases.specs.Sound.{Sound}

-- row i of a table, four numbers a row
abbrev pub row_in : List ℕ → ℕ → Row
row_in t i = (get_or t (4 * i) 0, get_or t (4 * i + 1) 0, get_or t (4 * i + 2) 0, get_or t (4 * i + 3) 0)

-- the table once row i is made this one
unfoldable pub put_row : List ℕ → ℕ → Row → List ℕ
put_row t i r = set (set (set (set t (4 * i) r.0) (4 * i + 1) r.1) (4 * i + 2) r.2) (4 * i + 3) r.3

-- the table has all its rows: 1,036 for edges, 16 for paths, 32 for shapes and 256 for targets, in this order
pub record Full (rows : List ℕ) : Type 0 where
  pub fits : 5360 ≤ length rows

unfoldable pub edge_in : List ℕ → ℕ → Edge
edge_in rows i = edge_of (row_in rows i)

unfoldable pub path_in : List ℕ → ℕ → PathRule
path_in rows p = path_rule_of (row_in rows (1036 + p))

unfoldable pub shape_in : List ℕ → ℕ → ShapeRule
shape_in rows s = shape_rule_of (row_in rows (1052 + s))

unfoldable pub target_in : List ℕ → ℕ → Target
target_in rows i = target_of (row_in rows (1084 + i))

-- the case of so many rows of each kind
unfoldable pub case_in : Counts → List ℕ → Case
case_in counts rows =
    record {
      nodes = counts.nodes;
      edges = map (edge_in rows) (up_to counts.edges);
      paths = map (path_in rows) (up_to counts.paths);
      shapes = map (shape_in rows) (up_to counts.shapes);
      targets = map (target_in rows) (up_to counts.targets);
    }

-- a sound case in a table that has its rows
pub record CaseIn (counts : Counts) (rows : List ℕ) : Type 0 where
  pub sound : Sound (case_in counts rows)
  pub fit : Fit counts
  pub full : Full rows
