-- What expanding needs and leaves. No part of document 01. Assumes nothing.
use Rattle.std.specs.Prelude.{ℕ, ◌+◌, ◌-◌, ◌*◌, ◌≤◌, ◌≡◌, cond, List, ◌++◌, map, length, eqb, ltb}
use Rattle.cases.specs.declared.command.Row.{Row}
use Rattle.cases.specs.declared.command.ShapeRule.{ShapeRule}
use Rattle.cases.specs.declared.command.ShapeRule.TheVariants.{Top, Node, And, Or, Not, Same, All, AtLeast}
use Rattle.cases.specs.declared.counts.Counts.{Counts}
use Rattle.cases.specs.Case.{Case}
use Rattle.cases.specs.Rows.{row_in, case_in, Full}
use Rattle.parts.specs.Tables.{rules_in}

-- the shape that a reference says, if so many are written: below 256 a written shape, else a fresh one
unfoldable pub renumbered_reference : ℕ → ℕ → ℕ
renumbered_reference written s = cond (ltb s 256) s (written + (s - 256))

unfoldable pub renumbered_row : ℕ → Row → Row
renumbered_row w r =
    cond (eqb r.0 0x20) r
    (cond (eqb r.0 0x21) r
    (cond (eqb r.0 0x22) (r.0, renumbered_reference w r.1, renumbered_reference w r.2, r.3)
    (cond (eqb r.0 0x23) (r.0, renumbered_reference w r.1, renumbered_reference w r.2, r.3)
    (cond (eqb r.0 0x24) (r.0, renumbered_reference w r.1, r.2, r.3)
    (cond (eqb r.0 0x25) r
    (cond (eqb r.0 0x26) (r.0, r.1, renumbered_reference w r.2, r.3)
    (r.0, r.1, r.2, renumbered_reference w r.3)))))))

unfoldable pub renumbered : ℕ → ShapeRule → ShapeRule
renumbered w Top = Top
renumbered w (Node a) = Node a
renumbered w (And s t) = And (record { 0 = renumbered_reference w s.0 }) (record { 0 = renumbered_reference w t.0 })
renumbered w (Or s t) = Or (record { 0 = renumbered_reference w s.0 }) (record { 0 = renumbered_reference w t.0 })
renumbered w (Not s) = Not (record { 0 = renumbered_reference w s.0 })
renumbered w (Same p q) = Same p q
renumbered w (All p s) = All p (record { 0 = renumbered_reference w s.0 })
renumbered w (AtLeast n p s) = AtLeast n p (record { 0 = renumbered_reference w s.0 })

-- the row of shape i, from the written ones or the fresh ones
unfoldable pub source_row : List ℕ → List ℕ → ℕ → ℕ → Row
source_row rows fresh written i = cond (ltb i written) (row_in rows (1052 + i)) (row_in fresh (i - written))

pub record ExpandRoom (counts : Counts) (fresh : List ℕ) (count : ℕ) (rows : List ℕ) : Type 0 where
  pub few : counts.shapes + count ≤ 32
  pub edges : counts.edges ≤ 1036
  pub paths : counts.paths ≤ 16
  pub there : 4 * count ≤ length fresh
  pub full : Full rows

-- the case with other shapes
abbrev pub with_shapes : Case → List ShapeRule → Case
with_shapes c shapes = record { nodes = c.nodes; edges = c.edges; paths = c.paths; shapes = shapes; targets = c.targets }

pub record ExpandedAs (counts : Counts) (fresh : List ℕ) (count : ℕ) (rows : List ℕ) (counts' : Counts) (rows' : List ℕ) : Type 0 where
  pub case_is : case_in counts' rows'
      ≡ with_shapes (case_in counts rows) (map (renumbered counts.shapes) ((case_in counts rows).shapes ++ rules_in fresh count))
  pub long : length rows' ≡ length rows
