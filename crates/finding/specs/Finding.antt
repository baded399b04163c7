-- What finding a command needs and leaves. No part of document 01. Assumes nothing.
use Rattle.std.specs.Prelude.{ℕ, ◌+◌, ◌*◌, ◌≤◌, ◌<◌, ◌≡◌, Bool, true, false, cond, not, ◌&&◌, List, [], ◌++◌, map, length, Result, Ok, Err, IfOk, leb}
use Rattle.cases.specs.declared.answers.Taken.{Taken}
use Rattle.cases.specs.declared.command.Command.{Command}
use Rattle.cases.specs.declared.command.Command.TheVariants.{Nodes, End}
use Rattle.cases.specs.declared.command.Command.TheVariants.{Edge as EdgeCommand, Path as PathCommand, Shape as ShapeCommand, Target as TargetCommand}
use Rattle.cases.specs.declared.command.Edge.{Edge}
use Rattle.cases.specs.declared.command.Row.{Row}
use Rattle.cases.specs.declared.command.ShapeRule.{ShapeRule}
use Rattle.cases.specs.declared.refusals.Fault.{Fault as Faulted}
use Rattle.cases.specs.declared.refusals.Fault.TheVariants.{TooManyShapes, NeverLaid}
use Rattle.fixpoint.specs.Lists.{up_to}
use Rattle.cases.specs.Counts.{shape_limit}
use Rattle.cases.specs.Faults.{edge_there}
use Rattle.cases.specs.Format.{edge_of, path_rule_of, shape_rule_of, target_of}
use Rattle.cases.specs.Rows.{Full, edge_in}
use Rattle.cases.specs.Parts.{names, rule, inside, fresh_count}
use Rattle.cases.specs.Reading.{step_at, Progress, counts_so_far, shapes_named, named_at, Entry, Shape, Other, Found, Fault, Good, plain_found, nested_found, roomy_found, laid_found}
use Rattle.cases.specs.Refusals.{fault_number}
use Rattle.parts.specs.declared.readers.Cursor.{Cursor}
use Rattle.parts.specs.declared.readers.Opened.{Opened}
use Rattle.parts.specs.declared.readers.Opened.TheVariants.{Name, Rule}
use Rattle.parts.specs.Tables.{rules_in, named_in}
use Rattle.finding.specs.declared.commands.Finding.{Finding}
use Rattle.finding.specs.declared.commands.Reached.{Reached}

-- ---- The small functions

abbrev pub nothing_reached : ℕ → Reached
nothing_reached profile =
    record { profile = profile; last = 0; counts = record { nodes = 0; edges = 0; paths = 0; shapes = 0; targets = 0 }; fresh = 0; noted = 0 }

abbrev pub shape_finding : Row → Cursor → Finding
shape_finding row after =
    record {
      accepted = record { command = ShapeCommand (shape_rule_of row); row = row; taken = record { group = 4; width = after.at } };
      fresh = after.fresh;
      noted = after.noted;
    }

abbrev pub part_finding : Opened → Finding
part_finding (Name s after) = shape_finding (0x23, s, s, 0) after
part_finding (Rule row after) = shape_finding row after

abbrev pub is_shape : Command → Bool
is_shape (Nodes n) = false
is_shape (EdgeCommand e) = false
is_shape (PathCommand r) = false
is_shape (ShapeCommand r) = true
is_shape (TargetCommand t) = false
is_shape End = false

unfoldable pub with_room : Finding → Reached → Result Finding Faulted
with_room finding reached =
    cond (is_shape finding.accepted.command && leb (shape_limit reached.profile) (reached.counts.shapes + finding.fresh)) (Err TooManyShapes) (Ok finding)

unfoldable pub with_edge : Finding → List Edge → Result Finding Faulted
with_edge finding edges = cond (not (edge_there edges finding.accepted.command)) (Err NeverLaid) (Ok finding)

-- ---- Room

-- the table has its rows, and so many of them are edges
pub record RowRoom (edges : ℕ) (rows : List ℕ) : Type 0 where
  pub few : edges ≤ 1036
  pub full : Full rows

pub record PlainRoom (part : List ℕ) (reached : Reached) (named : List ℕ) : Type 0 where
  pub some : 0 < length part
  pub notes : 2 * (reached.noted + 2) ≤ length named

-- a 28 can make 509 fresh shapes and notes before 19 is judged
pub record FindRoom (part : List ℕ) (reached : Reached) (fresh named : List ℕ) : Type 0 where
  pub some : 0 < length part
  pub few : reached.counts.shapes + reached.fresh ≤ 32
  pub rows : 4 * (reached.fresh + 509) ≤ length fresh
  pub notes : 2 * (reached.noted + 509) ≤ length named

-- ---- What is found

-- what the counts say of what has been read
pub record Stands (p : Progress) (reached : Reached) : Type 0 where
  pub profile_is : p.profile ≡ reached.profile
  pub last_is : p.last ≡ reached.last
  pub counts_are : counts_so_far p ≡ reached.counts
  pub fresh_is : fresh_count p.written ≡ reached.fresh

-- what an entry is to the tables, if n is the number of the next fresh shape: a command, fresh shapes, and the shapes that it names
abbrev pub entry_command : ℕ → Entry → Command
entry_command n (Shape x) = ShapeCommand (rule n x)
entry_command n (Other command) = command

abbrev pub entry_inside : ℕ → Entry → List ShapeRule
entry_inside n (Shape x) = inside n x
entry_inside n (Other command) = []

abbrev pub entry_names : Entry → List ℕ
entry_names (Shape x) = names x
entry_names (Other command) = shapes_named command

abbrev pub is_shape_entry : Entry → Bool
is_shape_entry (Shape x) = true
is_shape_entry (Other command) = false

-- the row says the command
unfoldable pub says : Row → Command → Type 0
says r (Nodes n) = Unit {0}
says r (EdgeCommand e) = edge_of r ≡ e
says r (PathCommand p) = path_rule_of r ≡ p
says r (ShapeCommand s) = shape_rule_of r ≡ s
says r (TargetCommand t) = target_of r ≡ t
says r End = Unit {0}

-- a command that was found, with what it leaves in the tables
pub record Adds (found : Found) (at : ℕ) (reached : Reached) (fresh named : List ℕ) (command : Command) (row : Row) (taken : Taken) (n m : ℕ) (fresh' named' : List ℕ)
    : Type 0 where
  pub entry : Entry
  pub is : found ≡ Good entry taken
  pub command_is : command ≡ entry_command (256 + reached.fresh) entry
  pub shaped : is_shape command ≡ is_shape_entry entry
  pub said : says row command
  pub rules : rules_in fresh' n ≡ rules_in fresh reached.fresh ++ entry_inside (256 + reached.fresh) entry
  pub notes : named_in named' m ≡ named_in named reached.noted ++ named_at at (entry_names entry)

unfoldable pub AnswerIs : Found → ℕ → Reached → List ℕ → List ℕ → Result Finding Faulted → List ℕ → List ℕ → Type 0
AnswerIs found at reached fresh named (Err fault) fresh' named' = found ≡ Fault (fault_number fault)
AnswerIs found at reached fresh named (Ok x) fresh' named' =
    Adds found at reached fresh named x.accepted.command x.accepted.row x.accepted.taken x.fresh x.noted fresh' named'

-- the same of every progress for which the counts stand
pub record FindingIs (found : Progress → Found) (at : ℕ) (reached : Reached) (fresh named : List ℕ) (r : Result Finding Faulted) (fresh' named' : List ℕ) : Type 0 where
  pub few : IfOk r (λ x. x.fresh ≤ 541)
  pub fresh_long : length fresh' ≡ length fresh
  pub named_long : length named' ≡ length named
  pub is : (p : Progress) → Stands p reached → AnswerIs (found p) at reached fresh named r fresh' named'

-- of a command but 28, which leaves the fresh shapes, whatever they are
pub record PlainAs (part : List ℕ) (at : ℕ) (reached : Reached) (named : List ℕ) (r : Result Finding Faulted) (named' : List ℕ) : Type 0 where
  pub found : reached.fresh ≤ 32 → (fresh : List ℕ) → FindingIs (λ p. plain_found (step_at p.profile p.last (counts_so_far p) part)) at reached fresh named r fresh named'

pub record NestedAs (part : List ℕ) (at : ℕ) (reached : Reached) (fresh named : List ℕ) (r : Result Finding Faulted) (fresh' named' : List ℕ) : Type 0 where
  pub found : FindingIs (λ p. nested_found p part) at reached fresh named r fresh' named'

pub record RoomyAs (part : List ℕ) (at : ℕ) (reached : Reached) (fresh named : List ℕ) (r : Result Finding Faulted) (fresh' named' : List ℕ) : Type 0 where
  pub found : FindingIs (λ p. roomy_found p part) at reached fresh named r fresh' named'

-- of any command, judged by the edges in the rows too
pub record FoundAs (part : List ℕ) (at : ℕ) (reached : Reached) (rows fresh named : List ℕ) (r : Result Finding Faulted) (fresh' named' : List ℕ) : Type 0 where
  pub found : FindingIs (λ p. laid_found (map (edge_in rows) (up_to reached.counts.edges)) (roomy_found p part)) at reached fresh named r fresh' named'
