-- The format: command bytes, operand widths, and the command that a part of the input starts with.
-- Document 01, "A case, command by command"; document 02, points 4 and 8. Assumes nothing.
use Rattle.std.specs.Prelude.{ℕ, ◌+◌, ◌*◌, Bool, cond, List, length, get_or, Option, Some, None, eqb, leb}
use Rattle.cases.specs.declared.command.Edge.{Edge}
use Rattle.cases.specs.declared.command.Target.{Target}
use Rattle.cases.specs.declared.command.Row.{Row}
use Rattle.cases.specs.declared.command.Command.{Command}
use Rattle.cases.specs.declared.command.Command.TheVariants.{Nodes, End}
use Rattle.cases.specs.declared.command.Command.TheVariants.{Edge as EdgeCommand, Path as PathCommand, Shape as ShapeCommand, Target as TargetCommand}
use Rattle.cases.specs.declared.command.PathRule.{PathRule}
use Rattle.cases.specs.declared.command.PathRule.TheVariants.{Forward, Backward, Union, Sequence, Star}
use Rattle.cases.specs.declared.command.ShapeRule.{ShapeRule}
use Rattle.cases.specs.declared.command.ShapeRule.TheVariants.{Top, Node, And, Or, Not, Same, All, AtLeast}
use Rattle.cases.specs.declared.answers.Taken.{Taken}
use Rattle.cases.specs.declared.format.Format.{Format}

-- a command byte's group, in the order in which the groups stand: 0 profile, 1 nodes, 2 edges, 3 paths, 4 shapes, 5 targets, 6 end,
-- 7 for an unknown byte, and for 28, whose parts have a format of their own; then the widths of its operands in bytes, a u8 being 1 and a u16 2
unfoldable pub format_of : ℕ → Format
format_of b =
    cond (eqb b 0x00) (0, 1, 0, 0)
    (cond (eqb b 0x01) (1, 2, 0, 0)
    (cond (eqb b 0x02) (2, 1, 2, 2)
    (cond (eqb b 0x03) (2, 1, 2, 2)
    (cond (eqb b 0x10) (3, 1, 0, 0)
    (cond (eqb b 0x11) (3, 1, 0, 0)
    (cond (eqb b 0x12) (3, 1, 1, 0)
    (cond (eqb b 0x13) (3, 1, 1, 0)
    (cond (eqb b 0x14) (3, 1, 0, 0)
    (cond (eqb b 0x20) (4, 0, 0, 0)
    (cond (eqb b 0x21) (4, 2, 0, 0)
    (cond (eqb b 0x22) (4, 1, 1, 0)
    (cond (eqb b 0x23) (4, 1, 1, 0)
    (cond (eqb b 0x24) (4, 1, 0, 0)
    (cond (eqb b 0x25) (4, 1, 1, 0)
    (cond (eqb b 0x26) (4, 1, 1, 0)
    (cond (eqb b 0x27) (4, 1, 1, 1)
    (cond (eqb b 0x30) (5, 1, 2, 0)
    (cond (eqb b 0xff) (6, 0, 0, 0)
    (7, 0, 0, 0)))))))))))))))))))

abbrev pub group_of : ℕ → ℕ
group_of b = (format_of b).0

-- the bytes that a command takes, its own and its operands'
abbrev pub width_by : Format → ℕ
width_by f = 1 + f.1 + f.2 + f.3

unfoldable pub width_of : ℕ → ℕ
width_of b = width_by (format_of b)

abbrev pub taken_by : Format → Taken
taken_by f = record { group = f.0; width = width_by f }

unfoldable pub taken_of : ℕ → Taken
taken_of b = taken_by (format_of b)

-- an operand: no byte, one byte, or two bytes, low byte first
unfoldable pub number_at : List ℕ → ℕ → ℕ → ℕ
number_at s at width =
    cond (eqb width 0) 0
    (cond (eqb width 1) (get_or s at 0)
    (get_or s at 0 + 256 * get_or s (at + 1) 0))

-- the byte that a part of the input starts with and the operands behind it, of these widths
abbrev pub row_by : Format → List ℕ → Row
row_by f s = (get_or s 0 0, number_at s 1 f.1, number_at s (1 + f.1) f.2, number_at s (1 + f.1 + f.2) f.3)

-- what the operand reader answers: the row, if the input has all its bytes
unfoldable pub operands_by : Format → List ℕ → Option Row
operands_by f s = cond (leb (width_by f) (length s)) (Some (row_by f s)) None

-- the same for the command that a part of the input starts with
unfoldable pub row_of : List ℕ → Row
row_of s = row_by (format_of (get_or s 0 0)) s

unfoldable pub complete : List ℕ → Bool
complete s = leb (width_of (get_or s 0 0)) (length s)

abbrev pub operands_of : List ℕ → Option Row
operands_of s = operands_by (format_of (get_or s 0 0)) s

-- the number of each of its answers: 3 where the input ends before the operands are complete
abbrev pub missing : Option Row → ℕ
missing (Some row) = 0
missing None = 3

-- the meaning of a row, group by group
abbrev pub edge_of : Row → Edge
edge_of r = record { code = r.0; property = record { 0 = r.1 }; subject = record { 0 = r.2 }; object = record { 0 = r.3 } }

unfoldable pub path_rule_of : Row → PathRule
path_rule_of r =
    cond (eqb r.0 0x10) (Forward (record { 0 = r.1 }))
    (cond (eqb r.0 0x11) (Backward (record { 0 = r.1 }))
    (cond (eqb r.0 0x12) (Union (record { 0 = r.1 }) (record { 0 = r.2 }))
    (cond (eqb r.0 0x13) (Sequence (record { 0 = r.1 }) (record { 0 = r.2 }))
    (Star (record { 0 = r.1 })))))

unfoldable pub shape_rule_of : Row → ShapeRule
shape_rule_of r =
    cond (eqb r.0 0x20) Top
    (cond (eqb r.0 0x21) (Node (record { 0 = r.1 }))
    (cond (eqb r.0 0x22) (And (record { 0 = r.1 }) (record { 0 = r.2 }))
    (cond (eqb r.0 0x23) (Or (record { 0 = r.1 }) (record { 0 = r.2 }))
    (cond (eqb r.0 0x24) (Not (record { 0 = r.1 }))
    (cond (eqb r.0 0x25) (Same (record { 0 = r.1 }) (record { 0 = r.2 }))
    (cond (eqb r.0 0x26) (All (record { 0 = r.1 }) (record { 0 = r.2 }))
    (AtLeast r.1 (record { 0 = r.2 }) (record { 0 = r.3 }))))))))

abbrev pub target_of : Row → Target
target_of r = record { shape = record { 0 = r.1 }; node = record { 0 = r.2 } }

unfoldable pub command_of : ℕ → Row → Command
command_of group r =
    cond (eqb group 1) (Nodes r.1)
    (cond (eqb group 2) (EdgeCommand (edge_of r))
    (cond (eqb group 3) (PathCommand (path_rule_of r))
    (cond (eqb group 4) (ShapeCommand (shape_rule_of r))
    (cond (eqb group 5) (TargetCommand (target_of r))
    End))))

-- the command that a part of the input starts with, if its byte is known and not 00, which is out of order wherever this is asked
unfoldable pub command_at : List ℕ → Command
command_at s = command_of (group_of (get_or s 0 0)) (row_of s)
