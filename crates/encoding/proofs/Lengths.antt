-- The length of an input that reading does not refuse: 8,192 bytes at most. Assumes nothing.
use Rattle.std.specs.Prelude.{Option, Some, None}
use Prim.Native.Nat.{ℕ, zero, suc, ◌+◌, ◌*◌, ◌≤◌, ◌<◌}
use native.Mathlib.Omega.{arith}
use mathlib.Core.Path.{◌≡◌, refl, sym, ◌∙◌}
use mathlib.Core.Bool.{Bool, true, false, cond, false≢true}
use mathlib.Core.List.{List}
use lib.ListN.{length, get_or, drop}
use lib.Dec.{eqb, leb, ltb}
use borrow.Author.Tests.{leb-true, eqb-true, ltb-false}
use Rattle.fixpoint.proofs.Lists.{by_test}
use Rattle.cases.specs.Reading.{Heading, HeadingIs, HeadingRefused}
use Rattle.cases.specs.Reading.{Step, Is, Refused as StepRefused}
use Rattle.cases.specs.declared.answers.Taken.{Taken}
use Rattle.cases.specs.declared.command.Command.{Command}
use Rattle.cases.specs.declared.command.Command.TheVariants.{Nodes, End}
use Rattle.cases.specs.declared.command.Command.TheVariants.{Edge as EdgeCommand, Path as PathCommand, Shape as ShapeCommand, Target as TargetCommand}
use Rattle.cases.specs.declared.command.Edge.{Edge}
use Rattle.cases.specs.declared.command.Row.{Row}
use Rattle.cases.specs.declared.counts.Counts.{Counts}
use Rattle.cases.specs.declared.format.Format.{Format}
use Rattle.cases.specs.Parts.{Head, Refused, Name, Alone, One, Two, AtMost}
use Rattle.cases.specs.Counts.{shape_limit}
use Rattle.cases.specs.Faults.{in_order, within_limit, nodes_known, paths_earlier, least_positive, shape_nodes_known, shape_paths_earlier, shape_least_positive}
use Rattle.cases.specs.Format.{format_of, group_of, width_by, taken_of, operands_by, operands_of, missing, shape_rule_of, command_at}
use Rattle.cases.specs.Parts.{part_format_of, open_unless, opening, rule_head, at_most_head, whole_head, head_by, head_at}
use Rattle.cases.specs.Parts.{Part, Named, Plain, Around, Joining, PartRead, PartFault, PartIs, and_then, opened, part_at, depth_limit, size, inner_size, fresh_count}
use Rattle.cases.specs.Reading.{heading_of, unless, judged, step_at, Progress, start, counts_so_far, add, Entry, Shape, Other, pass, Found, Fault, Good}
use Rattle.cases.specs.Reading.{entry_of, plain_found, part_found, found_unless, nested_found, room_for, roomy, roomy_found, parkable, laid_found, found_at}
use Rattle.cases.specs.Reading.{after_end, Walked, refused, finish, is_end, is_end_entry, stepped, walk, walked_from, walked, profile_of, expanded, outcome}
use Rattle.cases.specs.Sound.{Limited}
use Rattle.cases.proofs.Expansion.{length_expansion, fresh_count_more}
use Rattle.cases.proofs.Profiles.{shapes_at_most}
use Rattle.cases.proofs.Sound.{length_snoc, order_first, last_pass, outcome_limited}
use Rattle.cases.proofs.Steps.{of_group, CommandShows, EntryShows, Shows, GoodShows, found_shows, HeadingShows, heading_shows}

-- ---- The widths of the two formats

record Narrow (n : ℕ) (f : Format) : Type 0 where
  narrow : width_by f ≤ n

module _ (n b : ℕ) where
  choose : (k : ℕ) (x y : Format) → Narrow n x → Narrow n y → Narrow n (cond (eqb b k) x y)
  choose k x y h o = by_test (eqb b k) (λ e. rw e h) (λ e. rw e o)

  these : (g x y z : ℕ) → leb (1 + x + y + z) n ≡ true → Narrow n (g, x, y, z)
  these g x y z h = record { narrow = leb-true (1 + x + y + z) n h }

-- a command but 28
command_narrow : (b : ℕ) → Narrow 6 (format_of b)
unfolding format_of
command_narrow b = search (choose, these) depth 64

-- the head of a part
part_narrow : (b : ℕ) → Narrow 3 (part_format_of b)
unfolding part_format_of
part_narrow b = search (choose, these) depth 64

-- ---- The head of a part: w bytes at most. A refusal's number is not 0, here and below

unfoldable HeadTakes : ℕ → Head → Type 0
HeadTakes w (Refused n) = 0 < n
HeadTakes w (Name row v) = v ≤ w
HeadTakes w (Alone row v) = v ≤ w
HeadTakes w (One row v) = v ≤ w
HeadTakes w (Two row v) = v ≤ w
HeadTakes w (AtMost row v) = v ≤ w

module _ (nodes paths w : ℕ) where
  head_unless : (ok : Bool) (n : ℕ) (h : Head) → 0 < n → HeadTakes w h → HeadTakes w (open_unless ok n h)
  unfolding HeadTakes
  head_unless true n h z k = k
  head_unless false n h z k = z

  opening_takes : (kind : ℕ) (row : Row) (v : ℕ) → v ≤ w → HeadTakes w (opening kind row v)
  unfolding opening HeadTakes
  opening_takes kind row v h = by_test (eqb kind 1) (λ e. rw e h) (λ e. rw e (by_test (eqb kind 2) (λ d. rw d h) (λ d. rw d h)))

  rule_takes : (kind : ℕ) (row : Row) (v : ℕ) → v ≤ w → HeadTakes w (rule_head nodes paths kind row v)
  unfolding rule_head
  rule_takes kind row v h =
      let r = shape_rule_of row in
      head_unless (shape_nodes_known nodes r) 5 _ (omega arith)
      (head_unless (shape_paths_earlier paths r) 6 _ (omega arith)
      (head_unless (shape_least_positive r) 7 _ (omega arith)
      (opening_takes kind row v h)))

  most_takes : (row : Row) (v : ℕ) → v ≤ w → HeadTakes w (at_most_head paths row v)
  unfolding at_most_head HeadTakes
  most_takes row v h = head_unless (ltb row.2 paths) 6 _ (omega arith) (head_unless (ltb row.1 255) 7 _ (omega arith) h)

  whole_takes : (f : Format) (o : Option Row) → width_by f ≤ w → HeadTakes w (whole_head nodes paths f o)
  unfolding whole_head HeadTakes
  whole_takes f None h = omega arith
  whole_takes f (Some row) h =
      by_test (eqb f.0 4) (λ e. rw e h)
      (λ e. rw e (by_test (eqb f.0 5) (λ d. rw d (most_takes row (width_by f) h)) (λ d. rw d (rule_takes f.0 row (width_by f) h))))

head_takes : (nodes paths : ℕ) (s : List ℕ) → HeadTakes 3 (head_at nodes paths s)
unfolding head_at head_by
head_takes nodes paths s =
    let f = part_format_of (get_or s 0 0) in
    head_unless nodes paths 3 (ltb 0 (length s)) 3 _ (omega arith)
    (head_unless nodes paths 3 (ltb 0 f.0) 1 _ (omega arith)
    (whole_takes nodes paths 3 f (operands_by f s) (part_narrow (get_or s 0 0)).narrow))

-- ---- A part: 3 bytes, and 6 for each shape that it makes

unfoldable PartTakes : ℕ → PartRead → Type 0
PartTakes at (PartFault n) = 0 < n
PartTakes at (PartIs x next) = next ≤ at + 3 + 6 * size x

then_takes : (at from : ℕ) (r : PartRead) (f : Part → ℕ → PartRead) → PartTakes from r
    → ((x : Part) (next : ℕ) → next ≤ from + 3 + 6 * size x → PartTakes at (f x next)) → PartTakes at (and_then r f)
unfolding PartTakes and_then
then_takes at from (PartFault n) f h g = h
then_takes at from (PartIs x next) f h g = g x next h

opened_takes : (inner : ℕ → PartRead) → ((at : ℕ) → PartTakes at (inner at)) → (at : ℕ) (h : Head) → HeadTakes 3 h → PartTakes at (opened inner at h)
unfolding PartTakes HeadTakes opened size
opened_takes inner ih at (Refused n) h = h
opened_takes inner ih at (Name row w) h = omega arith
opened_takes inner ih at (Alone row w) h = omega arith
opened_takes inner ih at (One row w) h = then_takes at (at + w) (inner (at + w)) _ (ih (at + w)) (λ x next i. omega arith)
opened_takes inner ih at (Two row w) h =
    then_takes at (at + w) (inner (at + w)) _ (ih (at + w))
    (λ x next i. then_takes at next (inner next) _ (ih next) (λ y end j. omega arith))
opened_takes inner ih at (AtMost row w) h = then_takes at (at + w) (inner (at + w)) _ (ih (at + w)) (λ x next i. omega arith)

part_takes : (nodes paths : ℕ) (s : List ℕ) (depth at : ℕ) → PartTakes at (part_at depth nodes paths s at)
unfolding part_at PartTakes
part_takes nodes paths s zero at = omega arith
part_takes nodes paths s (suc depth) at =
    opened_takes (part_at depth nodes paths s) (part_takes nodes paths s depth) at (head_at nodes paths (drop at s)) (head_takes nodes paths (drop at s))

-- ---- A command but 28: 6 bytes

unfoldable StepTakes : Step → Type 0
StepTakes (StepRefused n) = 0 < n
StepTakes (Is command row taken) = taken.width ≤ 6

step_unless : (ok : Bool) (n : ℕ) (rest : Step) → (ok ≡ false → 0 < n) → StepTakes rest → StepTakes (unless ok n rest)
unfolding StepTakes
step_unless true n rest z k = k
step_unless false n rest z k = z refl

missing_some : (o : Option Row) → eqb (missing o) 0 ≡ false → 0 < missing o
missing_some (Some row) h = absurd (false≢true (sym h))
missing_some None h = omega arith

step_takes : (profile last : ℕ) (k : Counts) (s : List ℕ) → StepTakes (step_at profile last k s)
unfolding step_at judged taken_of StepTakes
step_takes profile last k s =
    let g = group_of (get_or s 0 0) in
    let command = command_at s in
    step_unless (ltb g 7) 1 _ (λ _. omega arith)
    (step_unless (in_order last g) 2 _ (λ _. omega arith)
    (step_unless (eqb (missing (operands_of s)) 0) (missing (operands_of s)) _ (missing_some (operands_of s))
    (step_unless (within_limit profile k command) 4 _ (λ _. omega arith)
    (step_unless (nodes_known k command) 5 _ (λ _. omega arith)
    (step_unless (paths_earlier k command) 6 _ (λ _. omega arith)
    (step_unless (least_positive command) 7 _ (λ _. omega arith)
    (command_narrow (get_or s 0 0)).narrow))))))

-- ---- What is found: 6 bytes, or 10 for a shape and for each fresh one that it makes

-- (a shape command adds a part)
unfoldable pub most : Entry → ℕ
most (Shape x) = 10 * suc (inner_size x)
most (Other (Nodes n)) = 6
most (Other (EdgeCommand e)) = 6
most (Other (PathCommand r)) = 6
most (Other (ShapeCommand r)) = 0
most (Other (TargetCommand t)) = 6
most (Other End) = 6

unfoldable pub FoundTakes : Found → Type 0
FoundTakes (Fault n) = 0 < n
FoundTakes (Good e taken) = taken.width ≤ most e

entry_most : (command : Command) → 6 ≤ most (entry_of command)
unfolding most
entry_most (Nodes n) = omega arith
entry_most (EdgeCommand e) = omega arith
entry_most (PathCommand r) = omega arith
entry_most (ShapeCommand r) = omega arith
entry_most (TargetCommand t) = omega arith
entry_most End = omega arith

plain_takes : (o : Step) → StepTakes o → FoundTakes (plain_found o)
unfolding StepTakes FoundTakes
plain_takes (StepRefused n) h = h
plain_takes (Is command row taken) h = omega (arith, entry_most command)

size_inner : (x : Part) → size x ≤ suc (inner_size x)
unfolding size inner_size
size_inner (Named s) = omega arith
size_inner (Plain r) = omega arith
size_inner (Around r x) = omega arith
size_inner (Joining r x y) = omega arith

part_found_lem : (r : PartRead) → PartTakes 1 r → FoundTakes (part_found r)
unfolding PartTakes FoundTakes most
part_found_lem (PartFault n) h = h
part_found_lem (PartIs x next) h = omega (arith, size_inner x)

found_unless_lem : (ok : Bool) (n : ℕ) (rest : Found) → 0 < n → FoundTakes rest → FoundTakes (found_unless ok n rest)
unfolding FoundTakes
found_unless_lem true n rest z k = k
found_unless_lem false n rest z k = z

nested_takes : (p : Progress) (part : List ℕ) → FoundTakes (nested_found p part)
unfolding nested_found
nested_takes p part =
    let nodes = p.case.nodes in
    let paths = length p.case.paths in
    found_unless_lem (in_order p.last 4) 2 _ (omega arith)
    (found_unless_lem (ltb (length p.written) (shape_limit p.profile)) 4 _ (omega arith)
    (part_found_lem (part_at depth_limit nodes paths part 1) (part_takes nodes paths part depth_limit 1)))

roomy_takes : (p : Progress) (f : Found) → FoundTakes f → FoundTakes (roomy p f)
unfolding FoundTakes
roomy_takes p (Fault n) h = h
roomy_takes p (Good e taken) h = found_unless_lem (room_for p e) 19 (Good e taken) (omega arith) h

laid_takes : (edges : List Edge) (f : Found) → FoundTakes f → FoundTakes (laid_found edges f)
unfolding FoundTakes
laid_takes edges (Fault n) h = h
laid_takes edges (Good e taken) h = found_unless_lem (parkable edges e) 20 (Good e taken) (omega arith) h

pub found_takes : (p : Progress) (part : List ℕ) → FoundTakes (found_at p part)
unfolding found_at roomy_found
found_takes p part =
    let step = step_at p.profile p.last (counts_so_far p) part in
    let found : Found = cond (eqb (get_or part 0 0) 0x28) (nested_found p part) (plain_found step) in
    laid_takes p.case.edges (roomy p found) (roomy_takes p found
    (by_test (eqb (get_or part 0 0) 0x28)
    (λ e. rw e (nested_takes p part))
    (λ e. rw e (plain_takes step (step_takes p.profile p.last (counts_so_far p) part)))))

-- ---- The walk

-- the most bytes of what has been read, with 8 for the profile and the nodes command, which come first
unfoldable reach : Progress → ℕ
reach p =
    8 + 6 * (length p.case.edges + length p.case.paths + length p.case.targets) + 10 * (length p.written + fresh_count p.written)

record ReachedTo (at : ℕ) (p : Progress) : Type 0 where
  first : p.last ≡ 0 → at ≤ 2
  within : at ≤ reach p

command_reach : (p : Progress) (part : List ℕ) (at g w : ℕ) (command : Command) → CommandShows p part g command → in_order p.last g ≡ true
    → w ≤ most (Other command) → is_end command ≡ false → ReachedTo at p → at + w ≤ reach (pass p at g (Other command))
unfolding of_group most reach pass add
command_reach p part at g w (Nodes n) h order m i k = omega (arith, k.first (order_first p.last (rw (eqb-true g 1 h.grouped) at order)))
command_reach p part at g w (EdgeCommand e) h order m i k = omega (arith, k.within, length_snoc p.case.edges e)
command_reach p part at g w (PathCommand r) h order m i k = omega (arith, k.within, length_snoc p.case.paths r)
command_reach p part at g w (ShapeCommand r) h order m i k = omega (arith, k.within)
command_reach p part at g w (TargetCommand t) h order m i k = omega (arith, k.within, length_snoc p.case.targets t)
command_reach p part at g w End h order m i k = absurd (false≢true (sym i))

entry_reach : (p : Progress) (part : List ℕ) (at g w : ℕ) (e : Entry) → EntryShows p part g e → in_order p.last g ≡ true → w ≤ most e
    → is_end_entry e ≡ false → ReachedTo at p → at + w ≤ reach (pass p at g e)
unfolding EntryShows most reach pass
entry_reach p part at g w (Shape x) h order m i k = omega (arith, k.within, length_snoc p.written x, fresh_count_more p.written x)
entry_reach p part at g w (Other command) h order m i k = command_reach p part at g w command h order m i k

pass_reached : (p : Progress) (part : List ℕ) (at : ℕ) (e : Entry) (taken : Taken) → Shows p part e taken → taken.width ≤ most e
    → is_end_entry e ≡ false → ReachedTo at p → ReachedTo (at + taken.width) (pass p at taken.group e)
pass_reached p part at e taken h m i k =
    record {
      first = λ z. absurd (omega (arith, h.known, last_pass p at taken.group e));
      within = entry_reach p part at taken.group taken.width e h.entry h.ordered m i k;
    }

-- where nothing is refused, no bytes stand behind the end command
record Ended (s : List ℕ) (w : Walked) : Type 0 where
  ended : w.refusal.number ≡ 0 → length s ≤ 1 + reach w.read

module _ (s : List ℕ) where
  refused_ended : (n at : ℕ) → 0 < n → Ended s (refused n at)
  unfolding refused
  refused_ended n at h = record { ended = λ z. absurd (omega arith) }

  after_none : (end : ℕ) (p : Progress) → (after_end s end p).number ≡ 0 → length s ≤ end
  unfolding after_end
  after_none end p h =
      by_test (ltb end (length s))
      (λ e. absurd (let z : ◌≡◌ {A = ℕ} 8 0 = rw e at h in omega arith))
      (λ e. ltb-false end (length s) e)

  finish_ended : (at : ℕ) (p : Progress) → ReachedTo at p → Ended s (finish s (at + 1) p)
  unfolding finish
  finish_ended at p k =
      let after = (after_end s (at + 1) p).number in
      by_test (eqb after 0)
      (λ e. rw e (record { ended = λ z. omega (arith, k.within, after_none (at + 1) p (eqb-true after 0 e)) }))
      (λ e. rw e (record { ended = λ z. absurd (false≢true (sym e ∙ rw z)) }))

  step_ended : (onward : ℕ → Progress → Walked) → ((at : ℕ) (p : Progress) → ReachedTo at p → Ended s (onward at p)) → (at : ℕ) (p : Progress) (f : Found)
      → GoodShows p (drop at s) f → FoundTakes f → ReachedTo at p → Ended s (stepped onward s at p f)
  unfolding stepped GoodShows FoundTakes
  step_ended onward ih at p (Fault n) h m k = refused_ended n at m
  step_ended onward ih at p (Good e taken) h m k =
      by_test (is_end_entry e)
      (λ i. rw i (finish_ended at p k))
      (λ i. rw i (ih (at + taken.width) _ (pass_reached p (drop at s) at e taken h.0 m i k)))

  walk_ended : (fuel at : ℕ) (p : Progress) → ReachedTo at p → Ended s (walk fuel s at p)
  unfolding walk
  walk_ended zero at p k = refused_ended 3 at (omega arith)
  walk_ended (suc fuel) at p k =
      by_test (ltb at (length s))
      (λ e. rw (e, walk) (step_ended (walk fuel s) (walk_ended fuel) at p (found_at p (drop at s)) (found_shows p (drop at s)) (found_takes p (drop at s)) k))
      (λ e. rw (e, walk) (refused_ended 3 at (omega arith)))

start_reached : (profile width : ℕ) → width ≤ 2 → ReachedTo width (start profile)
unfolding reach start
start_reached profile width h = record { first = λ z. h; within = omega arith }

from_ended : (s : List ℕ) (h : Heading) → HeadingShows h → Ended s (walked_from s h)
unfolding walked_from HeadingShows
from_ended s (HeadingRefused n) i = refused_ended s n 0 i.1
from_ended s (HeadingIs profile width) i = walk_ended s (suc (length s)) width (start profile) (start_reached profile width i.1)

-- with the limits on what has been read, 1,024 edges, 16 paths, 32 shapes and 256 targets
limited_reach : (profile : ℕ) (p : Progress) → Limited profile (expanded p) → 1 + reach p ≤ 8192
unfolding expanded reach
limited_reach profile p l =
    omega (arith, l.edges_limited, l.paths_limited, l.shapes_limited, shapes_at_most profile, l.targets_limited, length_expansion p.written)

pub outcome_length : (s : List ℕ) → (outcome s).refusal.number ≡ 0 → length s ≤ 8192
unfolding outcome walked
outcome_length s h =
    omega (arith, (from_ended s (heading_of s) (heading_shows s)).ended h, limited_reach (profile_of s) (walked s).read (outcome_limited s))
