-- What is found where a command should start, answer by answer. Assumes nothing.
use Rattle.std.specs.Prelude.{Result, Ok, Err}
use Prim.Native.Nat.{ℕ, ◌+◌, ◌≤◌, ◌<◌}
use native.Mathlib.Omega.{arith}
use mathlib.Core.Path.{◌≡◌, refl, sym, ap, ◌∙◌}
use mathlib.Core.Logic.{⊎_elim}
use mathlib.Core.Bool.{Bool, true, false, cond, not, ◌&&◌}
use mathlib.Core.List.{List, [], ◌∷◌, ◌++◌, append-nil, map}
use lib.ListN.{length, get_or, length-append}
use lib.Dec.{eqb, leb}
use borrow.Author.Tests.{not-true, not-false, eq-eqb, ne_eqb, lt-ltb, le-ltb, le-leb, lt-leb}
use Rattle.fixpoint.specs.Lists.{up_to}
use Rattle.fixpoint.proofs.Lists.{lt_cases}
use Rattle.cases.specs.declared.answers.Accepted.{Accepted}
use Rattle.cases.specs.declared.command.Command.{Command}
use Rattle.cases.specs.declared.command.Command.TheVariants.{Nodes, End}
use Rattle.cases.specs.declared.command.Command.TheVariants.{Edge as EdgeCommand, Path as PathCommand, Shape as ShapeCommand, Target as TargetCommand}
use Rattle.cases.specs.declared.command.Edge.{Edge}
use Rattle.cases.specs.declared.command.Row.{Row}
use Rattle.cases.specs.declared.refusals.Fault.{Fault as Faulted}
use Rattle.cases.specs.declared.refusals.Fault.TheVariants.{OutOfOrder, BeyondLimit, TooManyShapes, NeverLaid}
use Rattle.cases.specs.declared.command.ShapeRule.{ShapeRule}
use Rattle.cases.specs.declared.command.ShapeRule.TheVariants.{Top, Node, And, Or, Not, Same, All, AtLeast}
use Rattle.cases.specs.Case.{references}
use Rattle.cases.specs.Counts.{shape_limit}
use Rattle.cases.specs.Faults.{in_order, edge_there}
use Rattle.cases.specs.Format.{edge_of, path_rule_of, shape_rule_of, target_of, group_of, row_of, command_of, command_at}
use Rattle.cases.specs.Rows.{edge_in}
use Rattle.cases.specs.Refusals.{fault_number}
use Rattle.cases.specs.Parts.{Named, PartRead, part_at, names, rule, inside, expansion}
use Rattle.cases.specs.Reading.{step_at, step_says, Progress, counts_so_far, shapes_named, Entry, Shape, Other, Found, Fault, entry_of, plain_found, part_found}
use Rattle.cases.specs.Reading.{nested_found, room_for, roomy, roomy_found, parkable, laid_found}
use Rattle.cases.proofs.Expansion.{length_inside, length_expansion, fresh_count_more}
use Rattle.cases.proofs.Formats.{passed, failed}
use Rattle.cases.proofs.Steps.{StepShows, step_shows}
use Rattle.parts.specs.declared.readers.Opened.{Opened}
use Rattle.parts.specs.declared.readers.Opened.TheVariants.{Name, Rule}
use Rattle.parts.specs.Reads.{OpenedIs, OpenedAs, budget, PartRoom}
use Rattle.parts.specs.Tables.{rules_in, NoteRoom, Noted}
use Rattle.parts.proofs.Stores.{length_rules_in}
use Rattle.finding.specs.declared.commands.Finding.{Finding}
use Rattle.finding.specs.declared.commands.Reached.{Reached}
use Rattle.finding.specs.Finding.{part_finding, with_room, with_edge, PlainRoom, FindRoom}
use Rattle.finding.specs.Finding.{Stands, entry_command, entry_inside, entry_names, is_shape, is_shape_entry}
use Rattle.finding.specs.Finding.{says, AnswerIs, FindingIs, PlainAs, NestedAs, RoomyAs, FoundAs}

-- ---- A refusal leaves nothing but the tables' lengths

refused_is : {found : Progress → Found} {at : ℕ} {reached : Reached} {fresh named fresh' named' : List ℕ} {fault : Faulted} {r : Result Finding Faulted}
    → r ≡ Err fault → length fresh' ≡ length fresh → length named' ≡ length named → ((p : Progress) → Stands p reached → found p ≡ Fault (fault_number fault))
    → FindingIs found at reached fresh named r fresh' named'
unfolding AnswerIs
refused_is z a b f = rw z (record { few = tt; fresh_long = a; named_long = b; is = f })

-- a finding judged by one test more, which its fault alone passes
judged_is : (found found' : Progress → Found) {at : ℕ} {reached : Reached} {fresh named : List ℕ} {answer : Result Finding Faulted} {fresh' named' : List ℕ}
    → FindingIs found at reached fresh named answer fresh' named' → {fault : Faulted} → answer ≡ Err fault
    → ((p : Progress) → found p ≡ Fault (fault_number fault) → found' p ≡ Fault (fault_number fault))
    → {r : Result Finding Faulted} → r ≡ Err fault → FindingIs found' at reached fresh named r fresh' named'
unfolding AnswerIs
judged_is found found' f e k z = let i = rw e at f.is in refused_is z f.fresh_long f.named_long (λ p h. k p (i p h))

-- ---- Every command but 28

-- a row says the command that is made of it
says_one : (r : Row) (a b c d e : Bool)
    → says r (cond a (Nodes r.1) (cond b (EdgeCommand (edge_of r)) (cond c (PathCommand (path_rule_of r)) (cond d (ShapeCommand (shape_rule_of r)) (cond e (TargetCommand (target_of r)) End)))))
unfolding says
says_one r true b c d e = tt
says_one r false true c d e = refl
says_one r false false true d e = refl
says_one r false false false true e = refl
says_one r false false false false true = refl
says_one r false false false false false = tt

says_command : (group : ℕ) (r : Row) → says r (command_of group r)
unfolding command_of
says_command group r = says_one r (eqb group 1) (eqb group 2) (eqb group 3) (eqb group 4) (eqb group 5)

-- what its entry is to the tables
entry_command_lem : (n : ℕ) (command : Command) → (command ≡ entry_command n (entry_of command)) × (entry_inside n (entry_of command) ≡ []) × (entry_names (entry_of command) ≡ shapes_named command)
    × (is_shape command ≡ is_shape_entry (entry_of command))
unfolding rule inside names shapes_named
entry_command_lem n (Nodes m) = (refl, refl, refl, refl)
entry_command_lem n (EdgeCommand e) = (refl, refl, refl, refl)
entry_command_lem n (PathCommand r) = (refl, refl, refl, refl)
entry_command_lem n (ShapeCommand r) = (refl, refl, refl, refl)
entry_command_lem n (TargetCommand t) = (refl, refl, refl, refl)
entry_command_lem n End = (refl, refl, refl, refl)

pub few_references : (r : ShapeRule) → length (references r) ≤ 2
unfolding references
few_references Top = omega arith
few_references (Node a) = omega arith
few_references (And s t) = omega arith
few_references (Or s t) = omega arith
few_references (Not s) = omega arith
few_references (Same p q) = omega arith
few_references (All p s) = omega arith
few_references (AtLeast n p s) = omega arith

few_names : (command : Command) → length (shapes_named command) ≤ 2
unfolding shapes_named
few_names (Nodes n) = omega arith
few_names (EdgeCommand e) = omega arith
few_names (PathCommand r) = omega arith
few_names (ShapeCommand r) = few_references r
few_names (TargetCommand t) = omega arith
few_names End = omega arith

module _ (part : List ℕ) (reached : Reached) (step : Result Accepted Faulted) (s : step_says step ≡ step_at reached.profile reached.last reached.counts part) where
  plain_is : (p : Progress) → Stands p reached → plain_found (step_at p.profile p.last (counts_so_far p) part) ≡ plain_found (step_says step)
  plain_is p h =
      ap plain_found (ap (λ l. step_at l p.last (counts_so_far p) part) h.profile_is ∙ ap (λ l. step_at reached.profile l (counts_so_far p) part) h.last_is
      ∙ ap (λ k. step_at reached.profile reached.last k part) h.counts_are ∙ sym s)

  pub plain_refused : {at : ℕ} {named : List ℕ} {fault : Faulted} → step ≡ Err fault → {r : Result Finding Faulted} → r ≡ Err fault → PlainAs part at reached named r named
  plain_refused e z = record { found = λ h fresh. refused_is z refl refl (λ p k. plain_is p k ∙ rw e) }

  module _ {found : Accepted} (e : step ≡ Ok found) where
    pub plain_room : {named : List ℕ} → PlainRoom part reached named → NoteRoom (shapes_named found.command) reached.noted named
    plain_room r = record { fits = omega (arith, r.notes, few_names found.command) }

    plain_says : says found.row found.command
    unfolding StepShows command_at
    plain_says =
        let o = rw (← s, e) at (step_shows reached.profile reached.last reached.counts part) in
        rw (o.command_is, o.row_is) (says_command (group_of (get_or part 0 0)) (row_of part))

    pub plain_noted : {at m : ℕ} {named named' : List ℕ} → Noted (shapes_named found.command) at reached.noted named m named'
        → PlainAs part at reached named (Ok (record { accepted = found; fresh = reached.fresh; noted = m })) named'
    unfolding AnswerIs
    plain_noted {named' = named'} n =
        let c = entry_command_lem (256 + reached.fresh) found.command in
        record {
          found = λ h fresh. record {
            few = omega arith;
            fresh_long = refl;
            named_long = n.long;
            is = λ p k. record {
              entry = entry_of found.command;
              is = plain_is p k ∙ rw e;
              command_is = c.0;
              shaped = c.3;
              said = plain_says;
              rules = rw c.1 (sym (append-nil (rules_in fresh reached.fresh)));
              notes = rw c.2 n.noted;
            };
          };
        }

-- ---- A 28

module _ {part : List ℕ} {at : ℕ} {reached : Reached} {fresh named : List ℕ} where
  pub nested_disordered : {b : Bool} → b ≡ in_order reached.last 4 → not b ≡ true → NestedAs part at reached fresh named (Err OutOfOrder) fresh named
  unfolding nested_found
  nested_disordered o n = record { found = refused_is refl refl refl (λ p h. rw (h.last_is, failed o n)) }

  module _ {b : Bool} (o : b ≡ in_order reached.last 4) (n : not b ≡ false) where
    pub nested_full : {limit : ℕ} → limit ≡ shape_limit reached.profile → limit ≤ reached.counts.shapes
        → NestedAs part at reached fresh named (Err BeyondLimit) fresh named
    unfolding nested_found counts_so_far
    nested_full l f = record {
      found = refused_is refl refl refl
          (λ p h. let full = le-ltb (length p.written) (shape_limit reached.profile) (omega (arith, l, ap (λ k. k.shapes) h.counts_are)) in
          rw (h.last_is, passed o n, h.profile_is, full));
    }

-- what a part comes to, and how many fresh shapes there are then
part_is : (at : ℕ) (reached : Reached) (fresh named fresh' named' : List ℕ) (read : PartRead) (x : Opened) → reached.fresh ≤ 32
    → OpenedIs 509 read (record { place = at; at = 1; fresh = reached.fresh; noted = reached.noted }) fresh named (Ok x) fresh' named'
    → AnswerIs (part_found read) at reached fresh named (Ok (part_finding x)) fresh' named' × ((part_finding x).fresh ≤ 541)
unfolding OpenedIs AnswerIs shape_rule_of rule inside names says
part_is at reached fresh named fresh' named' read (Name s after) h i = (
  record {
    entry = Shape (Named s);
    is = rw i.is;
    command_is = refl;
    shaped = refl;
    said = refl;
    rules = rw (i.untouched, i.still) (sym (append-nil (rules_in fresh reached.fresh)));
    notes = i.notes;
  },
  omega (arith, i.still),
)
part_is at reached fresh named fresh' named' read (Rule row after) h i = (
  record {
    entry = Shape i.part;
    is = rw i.is;
    command_is = ap ShapeCommand i.rule_is;
    shaped = refl;
    said = refl;
    rules = i.wrote.rules;
    notes = i.wrote.notes;
  },
  omega (arith, i.wrote.few_rules),
)

module _ {part : List ℕ} {at : ℕ} {reached : Reached} {fresh named : List ℕ} (room : FindRoom part reached fresh named) where
  -- eight levels may open, seven of them inside the outermost part
  pub nested_room : PartRoom 7 part (record { place = at; at = 1; fresh = reached.fresh; noted = reached.noted }) fresh named
  unfolding budget
  nested_room = record { room = record { within = omega (arith, room.some); few = omega (arith, room.few); rows = room.rows; notes = room.notes } }

  module _ {b : Bool} (o : b ≡ in_order reached.last 4) (n : not b ≡ false) {limit : ℕ} (l : limit ≡ shape_limit reached.profile) (f : reached.counts.shapes < limit)
      {answer : Result Opened Faulted} {fresh' named' : List ℕ}
      (i : OpenedAs 7 reached.counts part (record { place = at; at = 1; fresh = reached.fresh; noted = reached.noted }) fresh named answer fresh' named') where
    parts_are : (p : Progress) → Stands p reached → nested_found p part ≡ part_found (part_at 8 reached.counts.nodes reached.counts.paths part 1)
    unfolding nested_found counts_so_far
    parts_are p h =
        let w = lt-ltb (length p.written) (shape_limit reached.profile) (omega (arith, l, ap (λ k. k.shapes) h.counts_are)) in
        rw (h.last_is, passed o n, h.profile_is, w, ap (λ k. k.nodes) h.counts_are, ap (λ k. k.paths) h.counts_are)

    pub nested_refused : {fault : Faulted} → answer ≡ Err fault → {r : Result Finding Faulted} → r ≡ Err fault → NestedAs part at reached fresh named r fresh' named'
    unfolding OpenedIs
    nested_refused e z =
        let read = rw e at i.is in
        record { found = refused_is z i.fresh_long i.named_long (λ p h. parts_are p h ∙ ap part_found read) }

    pub nested_read : {x : Opened} → answer ≡ Ok x → {r : Finding} → r ≡ part_finding x → NestedAs part at reached fresh named (Ok r) fresh' named'
    unfolding budget
    nested_read {x} e z =
        let s = part_is at reached fresh named fresh' named' _ x (omega (arith, room.few)) (rw e at i.is) in
        rw z (record {
          found = record {
            few = s.1;
            fresh_long = i.fresh_long;
            named_long = i.named_long;
            is = λ p h. rw (parts_are p h) s.0;
          };
        })

pub room_plain : {part : List ℕ} {reached : Reached} {fresh named : List ℕ} → FindRoom part reached fresh named → PlainRoom part reached named
room_plain room = record { some = room.some; notes = omega (arith, room.notes) }

-- ---- 19, and any command

-- 19 is said of a shape exactly where there is no room for it
module _ (p : Progress) (reached : Reached) (h : Stands p reached) (n : ℕ) where
  room_is : (e : Entry) → n ≡ reached.fresh + length (entry_inside (256 + reached.fresh) e)
      → is_shape_entry e && leb (shape_limit reached.profile) (reached.counts.shapes + n) ≡ not (room_for p e)
  unfolding counts_so_far
  room_is (Other command) l = refl
  room_is (Shape x) l =
      let limit = shape_limit reached.profile in
      let written = ap (λ k. k.shapes) h.counts_are in
      let t : length (expansion (p.written ++ (x ∷ []))) ≡ reached.counts.shapes + n + 1 =
      omega (arith, length_expansion (p.written ++ (x ∷ [])), length-append p.written (x ∷ []), fresh_count_more p.written x, h.fresh_is, length_inside (256 + reached.fresh) x) in
      ⊎_elim
      (λ b. rw (lt-leb limit (reached.counts.shapes + n) b, h.profile_is, t, le-leb (reached.counts.shapes + n + 1) limit (omega arith)))
      (λ b. rw (le-leb limit (reached.counts.shapes + n) b, h.profile_is, t, lt-leb (reached.counts.shapes + n + 1) limit (omega arith)))
      (lt_cases (reached.counts.shapes + n) limit)

-- how many fresh shapes there are with those of an entry
pub rules_count : (t t' : List ℕ) (n n' : ℕ) (own : List ShapeRule) → rules_in t' n' ≡ rules_in t n ++ own → n' ≡ n + length own
rules_count t t' n n' own e = omega (arith, ap length e, length-append (rules_in t n) own, length_rules_in t n, length_rules_in t' n')

-- a finding judged by a test more: its refusal, or as it was
tested_is : (found found' : Progress → Found) {at : ℕ} {reached : Reached} {fresh named : List ℕ} {x : Finding} {fresh' named' : List ℕ} (b : Bool) (fault : Faulted)
    → ((p : Progress) → Stands p reached → AnswerIs (found p) at reached fresh named (Ok x) fresh' named'
    → (b ≡ true → found' p ≡ Fault (fault_number fault)) × (b ≡ false → found' p ≡ found p))
    → FindingIs found at reached fresh named (Ok x) fresh' named' → FindingIs found' at reached fresh named (cond b (Err fault) (Ok x)) fresh' named'
unfolding AnswerIs
tested_is found found' true fault k f = refused_is refl f.fresh_long f.named_long (λ p h. (k p h (f.is p h)).0 refl)
tested_is found found' false fault k f = record {
  few = f.few;
  fresh_long = f.fresh_long;
  named_long = f.named_long;
  is = λ p h. rw ((k p h (f.is p h)).1 refl) (f.is p h);
}

with_room_is : (found : Progress → Found) {at : ℕ} {reached : Reached} {fresh named : List ℕ} {x : Finding} {fresh' named' : List ℕ}
    → FindingIs found at reached fresh named (Ok x) fresh' named' → FindingIs (λ p. roomy p (found p)) at reached fresh named (with_room x reached) fresh' named'
unfolding with_room AnswerIs
with_room_is found {reached = reached} {fresh = fresh} {x = x} {fresh' = fresh'} f =
    tested_is found (λ p. roomy p (found p)) (is_shape x.accepted.command && leb (shape_limit reached.profile) (reached.counts.shapes + x.fresh)) TooManyShapes
    (λ p h i.
    let count = rules_count fresh fresh' reached.fresh x.fresh (entry_inside (256 + reached.fresh) i.entry) i.rules in
    let r : is_shape x.accepted.command && leb (shape_limit reached.profile) (reached.counts.shapes + x.fresh) ≡ not (room_for p i.entry) =
    rw i.shaped (room_is p reached h x.fresh i.entry count) in
    (λ b. rw i.is (rw (not-true (room_for p i.entry) (sym r ∙ b))), λ b. rw (i.is, not-false (room_for p i.entry) (sym r ∙ b))))
    f

-- 20 is said of an edge exactly where it is not there
parkable_is : (edges : List Edge) (n : ℕ) (e : Entry) → edge_there edges (entry_command n e) ≡ parkable edges e
parkable_is edges n (Shape x) = refl
parkable_is edges n (Other command) = refl

with_edge_is : (found : Progress → Found) (edges : List Edge) {at : ℕ} {reached : Reached} {fresh named : List ℕ} {x : Finding} {fresh' named' : List ℕ}
    → FindingIs found at reached fresh named (Ok x) fresh' named' → FindingIs (λ p. laid_found edges (found p)) at reached fresh named (with_edge x edges) fresh' named'
unfolding with_edge AnswerIs
with_edge_is found edges {reached = reached} {x = x} f =
    tested_is found (λ p. laid_found edges (found p)) (not (edge_there edges x.accepted.command)) NeverLaid
    (λ p h i.
    let r : edge_there edges x.accepted.command ≡ parkable edges i.entry = rw i.command_is (parkable_is edges (256 + reached.fresh) i.entry) in
    (λ b. rw i.is (rw (sym r ∙ not-true (edge_there edges x.accepted.command) b)), λ b. rw (i.is, sym r ∙ not-false (edge_there edges x.accepted.command) b)))
    f

-- ---- What is found, by the functions' answers

module _ {part : List ℕ} {at : ℕ} {reached : Reached} {fresh named : List ℕ} (room : FindRoom part reached fresh named) where
  module _ (b : get_or part 0 0 ≡ 0x28) {answer : Result Finding Faulted} {fresh' named' : List ℕ} (f : NestedAs part at reached fresh named answer fresh' named') where
    code : eqb (get_or part 0 0) 0x28 ≡ true
    code = eq-eqb (get_or part 0 0) 0x28 b

    pub roomy_nested_refused : {fault : Faulted} → answer ≡ Err fault → {r : Result Finding Faulted} → r ≡ Err fault → RoomyAs part at reached fresh named r fresh' named'
    unfolding roomy_found
    roomy_nested_refused e z = record { found = judged_is (λ p. nested_found p part) (λ p. roomy_found p part) f.found e (λ p i. rw (code, i)) z }

    pub nested_few : {x : Finding} → answer ≡ Ok x → reached.counts.shapes + x.fresh ≤ 1000
    nested_few e = let few = rw e at f.found.few in omega (arith, room.few)

    pub roomy_nested : {x : Finding} → answer ≡ Ok x → {r : Result Finding Faulted} → r ≡ with_room x reached → RoomyAs part at reached fresh named r fresh' named'
    unfolding roomy_found
    roomy_nested e z = rw z (record { found = simp code (with_room_is (λ p. nested_found p part) (rw e at f.found)) })

  module _ (b : get_or part 0 0 ≡ 0x28 → ⊥) {answer : Result Finding Faulted} {named' : List ℕ} (f : PlainAs part at reached named answer named') where
    other_code : eqb (get_or part 0 0) 0x28 ≡ false
    other_code = ne_eqb (get_or part 0 0) 0x28 b

    plain : FindingIs (λ p. plain_found (step_at p.profile p.last (counts_so_far p) part)) at reached fresh named answer fresh named'
    plain = f.found (omega (arith, room.few)) fresh

    pub roomy_plain_refused : {fault : Faulted} → answer ≡ Err fault → {r : Result Finding Faulted} → r ≡ Err fault → RoomyAs part at reached fresh named r fresh named'
    unfolding roomy_found
    roomy_plain_refused e z =
        record { found = judged_is (λ p. plain_found (step_at p.profile p.last (counts_so_far p) part)) (λ p. roomy_found p part) plain e (λ p i. rw (other_code, i)) z }

    pub plain_few : {x : Finding} → answer ≡ Ok x → reached.counts.shapes + x.fresh ≤ 1000
    plain_few e = let few = rw e at plain.few in omega (arith, room.few)

    pub roomy_plain : {x : Finding} → answer ≡ Ok x → {r : Result Finding Faulted} → r ≡ with_room x reached → RoomyAs part at reached fresh named r fresh named'
    unfolding roomy_found
    roomy_plain e z =
        rw z (record { found = simp other_code (with_room_is (λ p. plain_found (step_at p.profile p.last (counts_so_far p) part)) (rw e at plain)) })

module _ {part : List ℕ} {at : ℕ} {reached : Reached} (rows : List ℕ) {fresh named : List ℕ} {answer : Result Finding Faulted} {fresh' named' : List ℕ}
    (f : RoomyAs part at reached fresh named answer fresh' named') where
  pub found_refused : {fault : Faulted} → answer ≡ Err fault → {r : Result Finding Faulted} → r ≡ Err fault → FoundAs part at reached rows fresh named r fresh' named'
  found_refused e z =
      let edges = map (edge_in rows) (up_to reached.counts.edges) in
      record { found = judged_is (λ p. roomy_found p part) (λ p. laid_found edges (roomy_found p part)) f.found e (λ p i. rw i) z }

  pub found_laid : {x : Finding} → answer ≡ Ok x → {r : Result Finding Faulted} → r ≡ with_edge x (map (edge_in rows) (up_to reached.counts.edges))
      → FoundAs part at reached rows fresh named r fresh' named'
  found_laid e z = rw z (record { found = with_edge_is (λ p. roomy_found p part) (map (edge_in rows) (up_to reached.counts.edges)) (rw e at f.found) })
