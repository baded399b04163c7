-- What a command that is found shows, and that what every command keeps holds at the end of the walk. Assumes nothing.
use Rattle.std.specs.Prelude.{Option, Some, None}
use Prim.Native.Nat.{ℕ, zero, suc, ◌+◌, ◌≤◌, ◌<◌}
use native.Mathlib.Omega.{arith}
use mathlib.Core.Path.{◌≡◌, refl}
use mathlib.Core.Bool.{Bool, true, false, cond, ◌||◌}
use mathlib.Core.List.{List}
use lib.ListN.{length, get_or, drop}
use lib.Dec.{eqb, ltb}
use borrow.Author.Tests.{leb-true, eqb-true, eqb-false}
use Rattle.fixpoint.specs.Lists.{all}
use Rattle.fixpoint.proofs.Lists.{by_test}
use Rattle.cases.specs.Reading.{Heading, HeadingIs, HeadingRefused}
use Rattle.cases.specs.Reading.{Step, Is, Refused}
use Rattle.cases.specs.declared.answers.Taken.{Taken}
use Rattle.cases.specs.declared.command.Edge.{Edge}
use Rattle.cases.specs.declared.command.Command.{Command}
use Rattle.cases.specs.declared.command.Command.TheVariants.{Nodes, End}
use Rattle.cases.specs.declared.command.Command.TheVariants.{Edge as EdgeCommand, Path as PathCommand, Shape as ShapeCommand, Target as TargetCommand}
use Rattle.cases.specs.declared.command.Row.{Row}
use Rattle.cases.specs.declared.counts.Counts.{Counts}
use Rattle.cases.specs.declared.format.Format.{Format}
use Rattle.cases.specs.Counts.{is_profile, shape_limit}
use Rattle.cases.specs.Faults.{in_order, within_limit, nodes_known, paths_earlier, least_positive, edge_there}
use Rattle.cases.specs.Format.{format_of, group_of, width_of, taken_of, number_at, row_of, complete, operands_of, operands_by, missing}
use Rattle.cases.specs.Format.{edge_of, path_rule_of, shape_rule_of, target_of, command_of, command_at}
use Rattle.cases.specs.Parts.{Part, PartRead, PartFault, PartIs, part_at, depth_limit}
use Rattle.cases.specs.Reading.{headed, heading_of, heading_profile, unless, judged, step_at, Progress, start, counts_so_far, Entry, Shape, Other, pass, Found, Fault, Good}
use Rattle.cases.specs.Reading.{entry_of, plain_found, part_found, nested_found, room_for, roomy, roomy_found, parkable, laid_found, found_at}
use Rattle.cases.specs.Reading.{Walked, refused, finish, is_end_entry, stepped, walk, walked_from, walked, profile_of, is_reading_number}
use Rattle.cases.specs.Sound.{path_byte, shape_byte}
use Rattle.cases.proofs.Expansion.{ruled}
use Rattle.cases.proofs.Opening.{shape_sound, bytes_at, ReadShows, part_shows}

-- a command in order is of a group behind 00's
pub order_some : (last g : ℕ) → in_order last g ≡ true → 0 < g
order_some last g h =
    by_test (eqb last 0)
    (λ e. omega (arith, eqb-true g 1 (rw e at h)))
    (λ e. by_test (eqb g 1) (λ f. omega (arith, eqb-true g 1 f)) (λ f. omega (arith, eqb-false last 0 e, leb-true last g (rw (e, f) at h))))

-- ---- What a command shows that is found

-- a command can be of the group, as far as the order is needed
unfoldable pub of_group : ℕ → Command → Bool
of_group g (Nodes n) = eqb g 1
of_group g (EdgeCommand e) = true
of_group g (PathCommand r) = eqb g 3
of_group g (ShapeCommand r) = eqb g 4
of_group g (TargetCommand t) = true
of_group g End = true

-- its operands fit their bytes, as far as no other test says so
unfoldable pub is_one_byte : Command → Bool
is_one_byte (Nodes n) = true
is_one_byte (EdgeCommand e) = ltb e.property.0 256
is_one_byte (PathCommand r) = path_byte r
is_one_byte (ShapeCommand r) = shape_byte r
is_one_byte (TargetCommand t) = true
is_one_byte End = true

-- an edge command is an 02 or a 03
unfoldable pub edge_coded : Command → Bool
edge_coded (Nodes n) = true
edge_coded (EdgeCommand e) = eqb e.code 0x02 || eqb e.code 0x03
edge_coded (PathCommand r) = true
edge_coded (ShapeCommand r) = true
edge_coded (TargetCommand t) = true
edge_coded End = true

-- 2 and 4 to 7 of a command
pub record CommandShows (p : Progress) (part : List ℕ) (g : ℕ) (command : Command) : Type 0 where
  pub grouped : of_group g command ≡ true
  pub limit : within_limit p.profile (counts_so_far p) command ≡ true
  pub nodes : nodes_known (counts_so_far p) command ≡ true
  pub paths : paths_earlier (counts_so_far p) command ≡ true
  pub least : least_positive command ≡ true
  pub coded : edge_coded command ≡ true
  pub bytes : all part (λ b. ltb b 256) ≡ true → is_one_byte command ≡ true

-- of a shape, as a part
pub record ShapeShows (p : Progress) (part : List ℕ) (g : ℕ) (x : Part) : Type 0 where
  pub grouped : g ≡ 4
  pub limit : ltb (length p.written) (shape_limit p.profile) ≡ true
  pub sound : ruled (shape_sound p.case.nodes (length p.case.paths)) x ≡ true
  pub bytes : all part (λ b. ltb b 256) ≡ true → ruled shape_byte x ≡ true

unfoldable pub EntryShows : Progress → List ℕ → ℕ → Entry → Type 0
EntryShows p part g (Shape x) = ShapeShows p part g x
EntryShows p part g (Other command) = CommandShows p part g command

-- what is added, and what is taken of the input
pub record Shows (p : Progress) (part : List ℕ) (e : Entry) (taken : Taken) : Type 0 where
  pub ordered : in_order p.last taken.group ≡ true
  pub known : 0 < taken.group
  pub some : 0 < taken.width
  pub whole : taken.width ≤ length part
  pub entry : EntryShows p part taken.group e

unfoldable pub FoundShows : Progress → List ℕ → Found → Type 0
FoundShows p part (Fault n) = is_reading_number n ≡ true
FoundShows p part (Good e taken) = Shows p part e taken

-- ---- A command but 28

-- what it is made of, and the tests that it passed
pub record Shown (profile last : ℕ) (k : Counts) (part : List ℕ) (command : Command) (row : Row) (taken : Taken) : Type 0 where
  pub command_is : command ≡ command_at part
  pub row_is : row ≡ row_of part
  pub taken_is : taken ≡ taken_of (get_or part 0 0)
  pub ordered : in_order last (group_of (get_or part 0 0)) ≡ true
  pub whole : width_of (get_or part 0 0) ≤ length part
  pub within : within_limit profile k command ≡ true
  pub nodes_known_holds : nodes_known k command ≡ true
  pub paths_earlier_holds : paths_earlier k command ≡ true
  pub least_positive_holds : least_positive command ≡ true

unfoldable pub StepShows : ℕ → ℕ → Counts → List ℕ → Step → Type 0
StepShows profile last k part (Refused n) = is_reading_number n ≡ true
StepShows profile last k part (Is command row taken) = Shown profile last k part command row taken

-- operands are missing where the command isn't whole
missing_none : (s : List ℕ) → eqb (missing (operands_of s)) 0 ≡ complete s
unfolding operands_by complete width_of
missing_none s = by_test (complete s) (λ e. rw e) (λ e. rw e)

missing_number : (o : Option Row) → is_reading_number (missing o) ≡ true
missing_number (Some row) = refl
missing_number None = refl

module _ (profile last : ℕ) (k : Counts) (part : List ℕ) where
  unless_shows : (ok : Bool) (n : ℕ) (rest : Step) → is_reading_number n ≡ true → (ok ≡ true → StepShows profile last k part rest)
      → StepShows profile last k part (unless ok n rest)
  unfolding StepShows
  unless_shows true n rest r f = f refl
  unless_shows false n rest r f = r

  pub step_shows : StepShows profile last k part (step_at profile last k part)
  unfolding step_at judged complete StepShows
  step_shows =
      let g = group_of (get_or part 0 0) in
      let command = command_at part in
      unless_shows (ltb g 7) 1 _ refl
      (λ known. unless_shows (in_order last g) 2 _ refl
      (λ ordered. unless_shows (eqb (missing (operands_of part)) 0) (missing (operands_of part)) _ (missing_number (operands_of part))
      (λ there. unless_shows (within_limit profile k command) 4 _ refl
      (λ within. unless_shows (nodes_known k command) 5 _ refl
      (λ nodes. unless_shows (paths_earlier k command) 6 _ refl
      (λ paths. unless_shows (least_positive command) 7 _ refl
      (λ least. record {
        command_is = refl;
        row_is = refl;
        taken_is = refl;
        ordered = ordered;
        whole = leb-true _ _ (rw (missing_none part) at there);
        within = within;
        nodes_known_holds = nodes;
        paths_earlier_holds = paths;
        least_positive_holds = least;
      })))))))

-- the group picks the command
command_of_group : (g : ℕ) (r : Row) → of_group g (command_of g r) ≡ true
unfolding command_of of_group
command_of_group g r =
    choose 1 (Nodes r.1) _ (λ e. e)
    (choose 2 (EdgeCommand (edge_of r)) _ (λ e. refl)
    (choose 3 (PathCommand (path_rule_of r)) _ (λ e. e)
    (choose 4 (ShapeCommand (shape_rule_of r)) _ (λ e. e)
    (choose 5 (TargetCommand (target_of r)) End (λ e. refl) refl))))
  where
    choose : (n : ℕ) (c o : Command) → (eqb g n ≡ true → of_group g c ≡ true) → of_group g o ≡ true → of_group g (cond (eqb g n) c o) ≡ true
    choose n c o f e = by_test (eqb g n) (λ h. rw h (f h)) (λ h. rw h e)

-- the command of byte b passes a test if its group and widths are f
record Passes (t : Command → Bool) (s : List ℕ) (b : ℕ) (f : Format) : Type 0 where
  passes : t (command_of f.0 (b, number_at s 1 f.1, number_at s (1 + f.1) f.2, number_at s (1 + f.1 + f.2) f.3)) ≡ true

-- choose-byte goes through the bytes of the format, this-byte ends it
module _ (t : Command → Bool) (s : List ℕ) (b : ℕ) where
  choose_byte : (n : ℕ) (x y : Format) → Passes t s n x → Passes t s b y → Passes t s b (cond (eqb b n) x y)
  choose_byte n x y h k = by_test (eqb b n) (λ e. rw e (rw (eqb-true b n e) h)) (λ e. rw e k)

  this_byte : (g x y z : ℕ) → t (command_of g (b, number_at s 1 x, number_at s (1 + x) y, number_at s (1 + x + y) z)) ≡ true → Passes t s b (g, x, y, z)
  this_byte g x y z e = record { passes = e }

module _ (s : List ℕ) (b : ℕ) where
  -- a property or a least number is the first operand of each
  format_one_byte : ltb (get_or s 1 0) 256 ≡ true → Passes is_one_byte s b (format_of b)
  unfolding format_of command_of path_rule_of shape_rule_of number_at is_one_byte
  format_one_byte h = search (choose_byte, this_byte) depth 64

  format_coded : Passes edge_coded s b (format_of b)
  unfolding format_of command_of edge_coded
  format_coded = search (choose_byte, this_byte) depth 64

command_one_byte : (part : List ℕ) → all part (λ b. ltb b 256) ≡ true → is_one_byte (command_at part) ≡ true
unfolding command_at row_of
command_one_byte part h = (format_one_byte part (get_or part 0 0) (bytes_at part 1 h)).passes

command_coded : (part : List ℕ) → edge_coded (command_at part) ≡ true
unfolding command_at row_of
command_coded part = (format_coded part (get_or part 0 0)).passes

-- what was shown of a command is what is shown of what it adds
entry_shows : (p : Progress) (part : List ℕ) (g : ℕ) (command : Command) → CommandShows p part g command → EntryShows p part g (entry_of command)
unfolding EntryShows of_group is_one_byte counts_so_far ruled shape_sound
entry_shows p part g (Nodes n) h = h
entry_shows p part g (EdgeCommand e) h = h
entry_shows p part g (PathCommand r) h = h
entry_shows p part g (ShapeCommand r) h =
    record { grouped = eqb-true g 4 h.grouped; limit = h.limit; sound = rw (h.nodes, h.paths, h.least); bytes = h.bytes }
entry_shows p part g (TargetCommand t) h = h
entry_shows p part g End h = h

plain_shows : (p : Progress) (part : List ℕ) (o : Step) → StepShows p.profile p.last (counts_so_far p) part o → FoundShows p part (plain_found o)
unfolding StepShows FoundShows command_at taken_of width_of
plain_shows p part (Refused n) h = h
plain_shows p part (Is command row taken) h =
    rw h.taken_is (record {
      ordered = h.ordered;
      known = order_some p.last (group_of (get_or part 0 0)) h.ordered;
      some = omega arith;
      whole = h.whole;
      entry =
          entry_shows p part (group_of (get_or part 0 0)) command
          (record {
            grouped = rw h.command_is (command_of_group (group_of (get_or part 0 0)) (row_of part));
            limit = h.within;
            nodes = h.nodes_known_holds;
            paths = h.paths_earlier_holds;
            least = h.least_positive_holds;
            coded = rw h.command_is (command_coded part);
            bytes = λ b. rw h.command_is (command_one_byte part b);
          });
    })

-- ---- A 28

part_read_shows : (p : Progress) (part : List ℕ) (r : PartRead) → in_order p.last 4 ≡ true → ltb (length p.written) (shape_limit p.profile) ≡ true
    → ReadShows p.case.nodes (length p.case.paths) part 1 r → FoundShows p part (part_found r)
unfolding ReadShows FoundShows EntryShows
part_read_shows p part (PartFault n) ordered limit h = h
part_read_shows p part (PartIs x next) ordered limit h =
    record {
      ordered = ordered;
      known = omega arith;
      some = omega (arith, h.onward);
      whole = h.within;
      entry = record { grouped = refl; limit = limit; sound = h.sound; bytes = h.byte };
    }

nested_shows : (p : Progress) (part : List ℕ) → FoundShows p part (nested_found p part)
unfolding nested_found FoundShows
nested_shows p part =
    let nodes = p.case.nodes in
    let paths = length p.case.paths in
    by_test (in_order p.last 4)
    (λ ordered. rw ordered
    (by_test (ltb (length p.written) (shape_limit p.profile))
    (λ limit. rw limit (part_read_shows p part (part_at depth_limit nodes paths part 1) ordered limit (part_shows nodes paths part depth_limit 1)))
    (λ limit. rw limit refl)))
    (λ ordered. rw ordered refl)

-- ---- Any command, with 19 and 20

pub record Admitted (p : Progress) (e : Entry) : Type 0 where
  pub room : room_for p e ≡ true
  pub there : parkable p.case.edges e ≡ true

unfoldable pub GoodShows : Progress → List ℕ → Found → Type 0
GoodShows p part (Fault n) = is_reading_number n ≡ true
GoodShows p part (Good e taken) = Shows p part e taken × Admitted p e

admitted_shows : (p : Progress) (part : List ℕ) (f : Found) → FoundShows p part f → GoodShows p part (laid_found p.case.edges (roomy p f))
unfolding FoundShows GoodShows
admitted_shows p part (Fault n) h = h
admitted_shows p part (Good e taken) h =
    by_test (room_for p e)
    (λ r. by_test (parkable p.case.edges e) (λ l. rw (r, l) (h, record { room = r; there = l })) (λ l. rw (r, l) refl))
    (λ r. rw r refl)

pub found_shows : (p : Progress) (part : List ℕ) → GoodShows p part (found_at p part)
unfolding found_at roomy_found
found_shows p part =
    let step = step_at p.profile p.last (counts_so_far p) part in
    by_test (eqb (get_or part 0 0) 0x28)
    (λ e. rw e (admitted_shows p part (nested_found p part) (nested_shows p part)))
    (λ e. rw e (admitted_shows p part (plain_found step) (plain_shows p part step (step_shows p.profile p.last (counts_so_far p) part))))

-- ---- A command but 03: 20 lets it be, so it is found as before there were parked edges

parkable_entry : (edges : List Edge) (command : Command) → edge_there edges command ≡ true → parkable edges (entry_of command) ≡ true
parkable_entry edges (Nodes n) h = refl
parkable_entry edges (EdgeCommand e) h = h
parkable_entry edges (PathCommand r) h = refl
parkable_entry edges (ShapeCommand r) h = refl
parkable_entry edges (TargetCommand t) h = refl
parkable_entry edges End h = refl

module _ (part : List ℕ) (unparked : eqb (get_or part 0 0) 0x03 ≡ false) (edges : List Edge) where
  parks_none : edge_there edges (command_at part) ≡ true
  unfolding command_at command_of row_of
  parks_none =
      let g = group_of (get_or part 0 0) in
      by_test (eqb g 1) (λ e. rw e refl)
      (λ e. by_test (eqb g 2) (λ f. rw (e, f, unparked) refl)
      (λ f. by_test (eqb g 3) (λ h. rw (e, f, h) refl)
      (λ h. by_test (eqb g 4) (λ i. rw (e, f, h, i) refl)
      (λ i. by_test (eqb g 5) (λ j. rw (e, f, h, i, j) refl) (λ j. rw (e, f, h, i, j) refl)))))

  plain_let_be : (profile last : ℕ) (k : Counts) (o : Step) → StepShows profile last k part o → laid_found edges (plain_found o) ≡ plain_found o
  unfolding StepShows
  plain_let_be profile last k (Refused n) h = refl
  plain_let_be profile last k (Is command row taken) h = rw (parkable_entry edges command (rw h.command_is parks_none))

  part_let_be : (r : PartRead) → laid_found edges (part_found r) ≡ part_found r
  part_let_be (PartFault n) = refl
  part_let_be (PartIs x next) = refl

  nested_let_be : (p : Progress) → laid_found edges (nested_found p part) ≡ nested_found p part
  unfolding nested_found
  nested_let_be p =
      by_test (in_order p.last 4)
      (λ ordered. rw ordered
      (by_test (ltb (length p.written) (shape_limit p.profile))
      (λ limit. rw limit (part_let_be (part_at depth_limit p.case.nodes (length p.case.paths) part 1)))
      (λ limit. rw limit refl)))
      (λ ordered. rw ordered refl)

  roomy_let_be : (p : Progress) (f : Found) → laid_found edges f ≡ f → laid_found edges (roomy p f) ≡ roomy p f
  roomy_let_be p (Fault n) h = refl
  roomy_let_be p (Good e taken) h = by_test (room_for p e) (λ r. rw r h) (λ r. rw r refl)

-- "A case without 03 solves as before": it reads as before, command by command
pub unparked_found : (p : Progress) (part : List ℕ) → eqb (get_or part 0 0) 0x03 ≡ false → found_at p part ≡ roomy_found p part
unfolding found_at roomy_found
unparked_found p part h =
    let edges = p.case.edges in
    let step = step_at p.profile p.last (counts_so_far p) part in
    roomy_let_be part h edges p (cond (eqb (get_or part 0 0) 0x28) (nested_found p part) (plain_found step))
    (by_test (eqb (get_or part 0 0) 0x28)
    (λ e. rw e (nested_let_be part h edges p))
    (λ e. rw e (plain_let_be part h edges p.profile p.last (counts_so_far p) step (step_shows p.profile p.last (counts_so_far p) part))))

-- ---- What the input begins with

unfoldable pub HeadingShows : Heading → Type 0
HeadingShows (HeadingRefused n) = (is_reading_number n ≡ true) × (0 < n)
HeadingShows (HeadingIs profile width) = (is_profile profile ≡ true) × (width ≤ 2)

pub heading_shows : (s : List ℕ) → HeadingShows (heading_of s)
unfolding heading_of HeadingShows
heading_shows s =
    by_test (headed s)
    (λ e. by_test (complete s)
    (λ f. by_test (is_profile (row_of s).1) (λ g. rw (e, f, g) (g, omega arith)) (λ g. rw (e, f, g) (refl, omega arith)))
    (λ f. rw (e, f) (refl, omega arith)))
    (λ e. rw e (refl, omega arith))

shows_known : (h : Heading) → HeadingShows h → is_profile (heading_profile h) ≡ true
unfolding HeadingShows
shows_known (HeadingRefused n) i = refl
shows_known (HeadingIs profile width) i = i.0

pub profile_known : (s : List ℕ) → is_profile (profile_of s) ≡ true
unfolding profile_of
profile_known s = shows_known (heading_of s) (heading_shows s)

-- ---- The walk: what every command keeps holds at its end

module _ (P : Progress → Type 0) (Q : Walked → Type 0) (s : List ℕ)
    (refuses : (n at : ℕ) → is_reading_number n ≡ true → Q (refused n at))
    (ends : (end : ℕ) (p : Progress) → P p → Q (finish s end p))
    (more : (at : ℕ) (p : Progress) (e : Entry) (taken : Taken) → Shows p (drop at s) e taken → Admitted p e → P p → P (pass p at taken.group e))
  where
    step_keeps : (onward : ℕ → Progress → Walked) → ((at : ℕ) (p : Progress) → P p → Q (onward at p)) → (at : ℕ) (p : Progress) (f : Found)
        → GoodShows p (drop at s) f → P p → Q (stepped onward s at p f)
    unfolding stepped GoodShows
    step_keeps onward ih at p (Fault n) h k = refuses n at h
    step_keeps onward ih at p (Good e taken) h k =
        by_test (is_end_entry e) (λ i. rw i (ends (at + 1) p k)) (λ i. rw i (ih (at + taken.width) _ (more at p e taken h.0 h.1 k)))

    pub walk_keeps : (fuel at : ℕ) (p : Progress) → P p → Q (walk fuel s at p)
    unfolding walk
    walk_keeps zero at p k = refuses 3 at refl
    walk_keeps (suc fuel) at p k =
        by_test (ltb at (length s))
        (λ e. rw (e, walk) (step_keeps (walk fuel s) (walk_keeps fuel) at p (found_at p (drop at s)) (found_shows p (drop at s)) k))
        (λ e. rw (e, walk) (refuses 3 at refl))

    from_keeps : (h : Heading) → HeadingShows h → ((profile width : ℕ) → h ≡ HeadingIs profile width → is_profile profile ≡ true → P (start profile)) → Q (walked_from s h)
    unfolding walked_from HeadingShows
    from_keeps (HeadingRefused n) i k = refuses n 0 i.0
    from_keeps (HeadingIs profile width) i k = walk_keeps (suc (length s)) width (start profile) (k profile width refl i.0)

    -- begun under the input's profile, which is known
    pub walked_keeps : (is_profile (profile_of s) ≡ true → P (start (profile_of s))) → Q (walked s)
    unfolding walked profile_of
    walked_keeps k = from_keeps (heading_of s) (heading_shows s) (λ profile width e. rw e at k)
