-- Reading: what is at fault with a command, the walk over the input, and what reading answers.
-- Document 01, "A case, command by command" (limits, order) and "Refusals", Reading; document 02, points 2, 4 and 8. Assumes nothing.
use Rattle.std.specs.Prelude.{ℕ, zero, suc, ◌+◌, Bool, true, false, cond, ◌&&◌, ◌||◌, List, [], ◌∷◌, ◌++◌, map, length, get_or, drop, Result, Ok, Err, eqb, leb, ltb}
use Rattle.cases.specs.declared.command.Command.{Command}
use Rattle.cases.specs.declared.command.Command.TheVariants.{Nodes, End}
use Rattle.cases.specs.declared.command.Command.TheVariants.{Edge as EdgeCommand, Path as PathCommand, Shape as ShapeCommand, Target as TargetCommand}
use Rattle.cases.specs.declared.command.Edge.{Edge}
use Rattle.cases.specs.declared.command.Row.{Row}
use Rattle.cases.specs.declared.answers.Preamble.{Preamble}
use Rattle.cases.specs.declared.answers.Reading.{Reading}
use Rattle.cases.specs.Refusals.{fault_number}
use Rattle.cases.specs.declared.answers.Accepted.{Accepted}
use Rattle.cases.specs.declared.answers.Taken.{Taken}
use Rattle.cases.specs.declared.counts.Counts.{Counts}
use Rattle.cases.specs.declared.refusals.Fault.{Fault as Faulted}
use Rattle.cases.specs.declared.refusals.Refused.{Refused as RefusedAt}
use Rattle.cases.specs.Case.{Case, empty_case, counts_of, references}
use Rattle.cases.specs.Counts.{is_profile, shape_limit}
use Rattle.cases.specs.Faults.{in_order, within_limit, nodes_known, paths_earlier, least_positive, edge_there, Refusal, no_refusal}
use Rattle.cases.specs.Format.{group_of, taken_of, row_of, complete, operands_of, missing, command_at}
use Rattle.cases.specs.Parts.{Part, Plain, PartRead, PartFault, PartIs, part_at, depth_limit, names, expansion}

-- ---- What the input begins with: the profile. 3 and 22 of a 00

-- "Command 00 with a profile u8 may stand .. before 01": whether it does. One that stands elsewhere is out of order, as a second is
abbrev pub headed : List ℕ → Bool
headed s = ltb 0 (length s) && eqb (get_or s 0 0) 0x00

-- what the input begins with: the profile and how many bytes say it, or the number of a refusal
pub data Heading : Type 0 where
  HeadingIs : ℕ → ℕ → Heading
  HeadingRefused : ℕ → Heading

-- "22 unknown profile, after 3 in the same command"; "No 00 means profile 0"
unfoldable pub heading_of : List ℕ → Heading
heading_of s =
    cond (headed s)
    (cond (complete s)
    (cond (is_profile (row_of s).1) (HeadingIs (row_of s).1 2) (HeadingRefused 22))
    (HeadingRefused 3))
    (HeadingIs 0 0)

-- what the code answers for it
abbrev pub heading_says : Result Preamble Faulted → Heading
heading_says (Ok x) = HeadingIs x.profile x.width
heading_says (Err fault) = HeadingRefused (fault_number fault)

-- the profile of an input, 0 where it is refused
abbrev pub heading_profile : Heading → ℕ
heading_profile (HeadingIs profile width) = profile
heading_profile (HeadingRefused n) = 0

unfoldable pub profile_of : List ℕ → ℕ
profile_of s = heading_profile (heading_of s)

-- ---- Refusals 1 to 7: the faults of one command but 28, behind what the input begins with, judged by the profile and by what has been read
-- before it

-- what is found where a command should start: a command, its row and what it takes, or the number of a refusal
pub data Step : Type 0 where
  Is : Command → Row → Taken → Step
  Refused : ℕ → Step

-- what follows, unless a test fails
abbrev pub unless : Bool → ℕ → Step → Step
unless ok number rest = cond ok rest (Refused number)

-- 4 to 7, for a command that is whole
unfoldable pub judged : ℕ → Counts → Command → Row → Taken → Step
judged profile counts command row taken =
    unless (within_limit profile counts command) 4
    (unless (nodes_known counts command) 5
    (unless (paths_earlier counts command) 6
    (unless (least_positive command) 7
    (Is command row taken))))

-- what is read where a part of the input starts, after a command of the group `last` and with the counts so far: a command, or the first
-- refusal of 1 to 7
unfoldable pub step_at : ℕ → ℕ → Counts → List ℕ → Step
step_at profile last counts s =
    unless (ltb (group_of (get_or s 0 0)) 7) 1
    (unless (in_order last (group_of (get_or s 0 0))) 2
    (unless (eqb (missing (operands_of s)) 0) (missing (operands_of s))
    (judged profile counts (command_at s) (row_of s) (taken_of (get_or s 0 0)))))

-- what the code answers for it
abbrev pub step_says : Result Accepted Faulted → Step
step_says (Ok x) = Is x.command x.row x.taken
step_says (Err fault) = Refused (fault_number fault)

-- ---- What has been read

-- a shape operand and the offset of its command
pub record Note : Type 0 where
  pub shape : ℕ
  pub place : ℕ

-- what has been read: the profile; the last command's group; the case so far, but for its shapes; these as parts, since a fresh shape has no
-- number before all are written; and the shape operands so far
pub record Progress : Type 0 where
  pub profile : ℕ
  pub last : ℕ
  pub case : Case
  pub written : List Part
  pub named : List Note

-- nothing but the profile
unfoldable pub start : ℕ → Progress
start profile = record { profile = profile; last = 0; case = empty_case; written = []; named = [] }

-- the counts so far; "4 counts no fresh shapes"
unfoldable pub counts_so_far : Progress → Counts
counts_so_far p =
    record {
      nodes = p.case.nodes;
      edges = length p.case.edges;
      paths = length p.case.paths;
      shapes = length p.written;
      targets = length p.case.targets;
    }

-- the case with one command more (reading adds a shape command as a part, below: the clause of a shape is for the table of rows)
unfoldable pub add : Case → Command → Case
add c (Nodes n) = record { nodes = n; edges = c.edges; paths = c.paths; shapes = c.shapes; targets = c.targets }
add c (EdgeCommand e) = record { nodes = c.nodes; edges = c.edges ++ (e ∷ []); paths = c.paths; shapes = c.shapes; targets = c.targets }
add c (PathCommand r) = record { nodes = c.nodes; edges = c.edges; paths = c.paths ++ (r ∷ []); shapes = c.shapes; targets = c.targets }
add c (ShapeCommand r) = record { nodes = c.nodes; edges = c.edges; paths = c.paths; shapes = c.shapes ++ (r ∷ []); targets = c.targets }
add c (TargetCommand t) = record { nodes = c.nodes; edges = c.edges; paths = c.paths; shapes = c.shapes; targets = c.targets ++ (t ∷ []) }
add c End = c

-- the shape operands of a command, of a shape or a target
unfoldable pub shapes_named : Command → List ℕ
shapes_named (Nodes n) = []
shapes_named (EdgeCommand e) = []
shapes_named (PathCommand r) = []
shapes_named (ShapeCommand r) = references r
shapes_named (TargetCommand t) = t.shape.0 ∷ []
shapes_named End = []

unfoldable pub named_at : ℕ → List ℕ → List Note
named_at place shapes = map (λ s. record { shape = s; place = place }) shapes

-- what a command adds: a shape, as a part, or anything else
pub data Entry : Type 0 where
  Shape : Part → Entry
  Other : Command → Entry

-- what has been read, with the command at an offset, of a group, read too
unfoldable pub pass : Progress → ℕ → ℕ → Entry → Progress
pass p at group (Shape x) =
    record {
      profile = p.profile;
      last = group;
      case = p.case;
      written = p.written ++ (x ∷ []);
      named = p.named ++ named_at at (names x);
    }
pass p at group (Other command) =
    record {
      profile = p.profile;
      last = group;
      case = add p.case command;
      written = p.written;
      named = p.named ++ named_at at (shapes_named command);
    }

-- ---- What is found where a command should start: 18, 19 and 20 too

-- the number of a refusal, or what the command adds and what it takes of the input
pub data Found : Type 0 where
  Fault : ℕ → Found
  Good : Entry → Taken → Found

-- the operands of a shape command but 28 name shapes
abbrev pub entry_of : Command → Entry
entry_of (Nodes n) = Other (Nodes n)
entry_of (EdgeCommand e) = Other (EdgeCommand e)
entry_of (PathCommand r) = Other (PathCommand r)
entry_of (ShapeCommand r) = Shape (Plain r)
entry_of (TargetCommand t) = Other (TargetCommand t)
entry_of End = Other End

abbrev pub plain_found : Step → Found
plain_found (Refused n) = Fault n
plain_found (Is command row taken) = Good (entry_of command) taken

-- a 28 is of the shapes' group, 4
abbrev pub part_found : PartRead → Found
part_found (PartFault n) = Fault n
part_found (PartIs x next) = Good (Shape x) (record { group = 4; width = next })

-- "in a 28, 2 and 4 come first, then each part as it opens is checked"
abbrev pub found_unless : Bool → ℕ → Found → Found
found_unless ok number rest = cond ok rest (Fault number)

unfoldable pub nested_found : Progress → List ℕ → Found
nested_found p s =
    found_unless (in_order p.last 4) 2
    (found_unless (ltb (length p.written) (shape_limit p.profile)) 4
    (part_found (part_at depth_limit p.case.nodes (length p.case.paths) s 1)))

-- "19 more than 32 written and fresh shapes so far, after 7 in each shape command"; "4 and 19 use the profile's limits"
abbrev pub room_for : Progress → Entry → Bool
room_for p (Shape x) = leb (length (expansion (p.written ++ (x ∷ [])))) (shape_limit p.profile)
room_for p (Other command) = true

abbrev pub roomy : Progress → Found → Found
roomy p (Fault n) = Fault n
roomy p (Good e taken) = found_unless (room_for p e) 19 (Good e taken)

unfoldable pub roomy_found : Progress → List ℕ → Found
roomy_found p s = roomy p (cond (eqb (get_or s 0 0) 0x28) (nested_found p s) (plain_found (step_at p.profile p.last (counts_so_far p) s)))

-- "20 no such edge earlier, after 5 in the same command"
abbrev pub parkable : List Edge → Entry → Bool
parkable edges (Shape x) = true
parkable edges (Other command) = edge_there edges command

abbrev pub laid_found : List Edge → Found → Found
laid_found edges (Fault n) = Fault n
laid_found edges (Good e taken) = found_unless (parkable edges e) 20 (Good e taken)

unfoldable pub found_at : Progress → List ℕ → Found
found_at p s = laid_found p.case.edges (roomy_found p s)

-- ---- The walk over the input

-- 9: a shape operand that names no written shape ("Operands and targets name written shapes only"); the place is the first such command's
unfoldable pub unknown_shape : ℕ → List Note → Refusal
unknown_shape shapes [] = no_refusal
unknown_shape shapes (r ∷ l) = cond (ltb r.shape shapes) (unknown_shape shapes l) (record { number = 9; place = r.place })

-- over the case, once its end command is read: 8 bytes after it, which start at end; then 9
unfoldable pub after_end : List ℕ → ℕ → Progress → Refusal
after_end s end p =
    cond (ltb end (length s)) (record { number = 8; place = end })
    (unknown_shape (length p.written) p.named)

-- what the walk comes to: a refusal, with nothing read, or no refusal and what was read
pub record Walked : Type 0 where
  pub refusal : Refusal
  pub read : Progress

unfoldable pub refused : ℕ → ℕ → Walked
refused number place = record { refusal = record { number = number; place = place }; read = start 0 }

unfoldable pub finish : List ℕ → ℕ → Progress → Walked
finish s end p =
    cond (eqb (after_end s end p).number 0)
    (record { refusal = no_refusal; read = p })
    (record { refusal = after_end s end p; read = start 0 })

abbrev pub is_end : Command → Bool
is_end (Nodes n) = false
is_end (EdgeCommand e) = false
is_end (PathCommand r) = false
is_end (ShapeCommand r) = false
is_end (TargetCommand t) = false
is_end End = true

abbrev pub is_end_entry : Entry → Bool
is_end_entry (Shape x) = false
is_end_entry (Other command) = is_end command

-- what is found comes to its refusal, whose place is the command's offset ("the offset of the 28" for a part); or to the end; or to what
-- follows it, which the first argument says
unfoldable pub stepped : (ℕ → Progress → Walked) → List ℕ → ℕ → Progress → Found → Walked
stepped onward s at p (Fault n) = refused n at
stepped onward s at p (Good e taken) =
    cond (is_end_entry e) (finish s (at + 1) p) (onward (at + taken.width) (pass p at taken.group e))

-- from an offset on: 3 where the input ends, else the first command at fault decides, else on to the next command or the end.
-- The fuel is above the bytes left, of which each command takes one at least
unfoldable pub walk : ℕ → List ℕ → ℕ → Progress → Walked
walk zero s at p = refused 3 at
walk (suc fuel) s at p =
    cond (ltb at (length s)) (stepped (walk fuel s) s at p (found_at p (drop at s))) (refused 3 at)

-- after what the input begins with; a refusal of that has the place of the 00
unfoldable pub walked_from : List ℕ → Heading → Walked
walked_from s (HeadingRefused n) = refused n 0
walked_from s (HeadingIs profile width) = walk (suc (length s)) s width (start profile)

unfoldable pub walked : List ℕ → Walked
walked s = walked_from s (heading_of s)

-- the written shapes of an input that reading does not refuse, as parts
unfoldable pub parts_of : List ℕ → List Part
parts_of s = (walked s).read.written

-- ---- What reading comes to: a refusal and the empty case, or no refusal and the case, whose shapes are those of the expansion

pub record Outcome : Type 0 where
  pub refusal : Refusal
  pub case : Case

unfoldable pub expanded : Progress → Case
expanded p =
    record {
      nodes = p.case.nodes;
      edges = p.case.edges;
      paths = p.case.paths;
      shapes = expansion p.written;
      targets = p.case.targets;
    }

unfoldable pub outcome : List ℕ → Outcome
outcome s = record { refusal = (walked s).refusal; case = expanded (walked s).read }

-- reading's numbers: 0 for none, 1 to 9, 18, 19, 20 and 22
abbrev pub is_reading_number : ℕ → Bool
is_reading_number n = leb n 9 || (eqb n 18 || (eqb n 19 || (eqb n 20 || eqb n 22)))

-- ---- What reading answers: number, place, and the counts, all 0 on a refusal

unfoldable pub reading : List ℕ → Reading
reading s =
    record {
      number = (outcome s).refusal.number;
      place = (outcome s).refusal.place;
      nodes = (counts_of (outcome s).case).nodes;
      edges = (counts_of (outcome s).case).edges;
      paths = (counts_of (outcome s).case).paths;
      shapes = (counts_of (outcome s).case).shapes;
      targets = (counts_of (outcome s).case).targets;
    }

-- the answer that says these counts, and the one that says a refusal
abbrev pub reading_of : Counts → Reading
reading_of k =
    record { number = 0; place = 0; nodes = k.nodes; edges = k.edges; paths = k.paths; shapes = k.shapes; targets = k.targets }

abbrev pub reading_refused : RefusedAt → Reading
reading_refused r = record { number = fault_number r.fault; place = r.place; nodes = 0; edges = 0; paths = 0; shapes = 0; targets = 0 }
