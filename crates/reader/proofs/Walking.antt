-- The walk over the input: one step of it, the invariant of the loop that reads, and how each way on from there keeps the invariant or makes
-- the answer of it. Assumes nothing.
use Prim.Native.Nat.{ℕ, zero, suc, ◌+◌, ◌-◌, ◌*◌, ◌≤◌, ◌<◌}
use native.Mathlib.Omega.{arith}
use mathlib.Core.Path.{◌≡◌, refl, sym, ap, ◌∙◌}
use mathlib.Core.Bool.{Bool, true, false, false≢true}
use mathlib.Core.List.{List, [], ◌∷◌, ◌++◌, append-nil, map}
use lib.ListN.{length, take, drop, length-append, length-drop, length-map}
use lib.Dec.{eqb, ltb}
use lib.Seq.{take_all}
use borrow.Author.Tests.{lt-ltb, le-ltb, eqb-true, eqb-false}
use Rattle.fixpoint.specs.Lists.{from, up_to, all}
use Rattle.fixpoint.proofs.Lists.{tests, by_test, all_mono}
use Rattle.cases.specs.Reading.{HeadingIs, HeadingRefused}
use Rattle.cases.specs.Refusals.{fault_number}
use Rattle.cases.specs.declared.answers.Taken.{Taken}
use Rattle.cases.specs.declared.command.Command.{Command}
use Rattle.cases.specs.declared.command.Command.TheVariants.{Nodes, End}
use Rattle.cases.specs.declared.command.Command.TheVariants.{Edge as EdgeCommand, Path as PathCommand, Shape as ShapeCommand, Target as TargetCommand}
use Rattle.cases.specs.declared.command.Row.{Row}
use Rattle.cases.specs.declared.counts.Counts.{Counts}
use Rattle.cases.specs.declared.refusals.Fault.{Fault as Faulted}
use Rattle.cases.specs.Case.{Case, empty_case, counts_of}
use Rattle.cases.specs.Faults.{within_limit, Refusal, no_refusal}
use Rattle.cases.specs.Parts.{Part, Named, Plain, Around, Joining, names, size, inner_size, rule, rules, fresh_rules, fresh_count, expansion}
use Rattle.cases.specs.Reading.{heading_of, Note, Progress, start, counts_so_far, add}
use Rattle.cases.specs.Reading.{shapes_named, named_at, Entry, Shape, Other, pass, Found, Fault, Good, found_at}
use Rattle.cases.specs.Reading.{unknown_shape, after_end, refused, finish, is_end, is_end_entry, stepped, walk, walked_from, walked, Outcome, expanded, outcome, reading, reading_of}
use Rattle.cases.specs.Rows.{edge_in, case_in, Full}
use Rattle.cases.proofs.Expansion.{length_rules, length_fresh_rules, length_expansion, fresh_count_more, rules_more, fresh_rules_more}
use Rattle.cases.proofs.InRows.{counts_in, limited_fit}
use Rattle.cases.proofs.Profiles.{shapes_at_most}
use Rattle.cases.proofs.Sound.{SoundSoFar, profile_pass, last_pass, start_sound, sound_pass, after_end_none, outcome_sound, outcome_limited}
use Rattle.cases.proofs.Steps.{EntryShows, Shows, Admitted, GoodShows, found_shows, HeadingShows, heading_shows}
use Rattle.parts.specs.Expanding.{with_shapes, ExpandedAs}
use Rattle.parts.specs.Tables.{rules_in, named_in}
use Rattle.parts.proofs.Renumbering.{expansion_moved}
use Rattle.parts.proofs.Stores.{length_rules_in}
use Rattle.finding.specs.declared.commands.Finding.{Finding}
use Rattle.finding.specs.declared.commands.Reached.{Reached}
use Rattle.finding.specs.Finding.{nothing_reached, RowRoom, FindRoom, Stands, entry_command, entry_inside, entry_names, is_shape, is_shape_entry, Adds, AnswerIs, FoundAs}
use Rattle.finding.proofs.Findings.{few_references, rules_count}
use Rattle.reader.specs.Parsing.{Parsed, refused_as, end_fault, EndRoom, EndedAs, ParsedAs}
use Rattle.reader.specs.Storing.{StoredWithin, StoreRoom, Stored}
use Rattle.reader.proofs.Unknown.{length_named}
use Rattle.std.specs.Prelude.{Result, Ok, Err}

-- ---- One step of the walk

module _ (s : List ℕ) (at : ℕ) (p : Progress) where
  walk_over : (f : ℕ) → length s ≤ at → walk f s at p ≡ refused 3 at
  unfolding walk
  walk_over zero h = refl
  walk_over (suc f) h = rw (le-ltb at (length s) h, walk)

  walk_step : (f : ℕ) → at < length s → (o : Found) → found_at p (drop at s) ≡ o → walk (suc f) s at p ≡ stepped (walk f s) s at p o
  unfolding walk
  walk_step f h o e = rw (lt-ltb at (length s) h, walk) (ap (stepped (walk f s) s at p) e)

-- ---- What has been read, as the tables hold it: fresh shapes are numbered from 256 on

unfoldable pub drafted : Progress → Case
drafted p = with_shapes p.case (rules 256 p.written)

drafted_counts : (p : Progress) → counts_of (drafted p) ≡ counts_so_far p
unfolding drafted counts_of counts_so_far
drafted_counts p = rw (length_rules 256 p.written)

-- one command more
draft_shape : (p : Progress) (at g : ℕ) (x : Part) → add (drafted p) (ShapeCommand (rule (256 + fresh_count p.written) x)) ≡ drafted (pass p at g (Shape x))
unfolding drafted add pass
draft_shape p at g x = rw (rules_more 256 p.written x)

draft_other : (p : Progress) (at g : ℕ) (command : Command) → is_shape command ≡ false → add (drafted p) command ≡ drafted (pass p at g (Other command))
unfolding drafted add pass
draft_other p at g (Nodes n) h = refl
draft_other p at g (EdgeCommand e) h = refl
draft_other p at g (PathCommand r) h = refl
draft_other p at g (ShapeCommand r) h = absurd (false≢true (sym h))
draft_other p at g (TargetCommand t) h = refl
draft_other p at g End h = refl

draft_pass : (p : Progress) (at g : ℕ) (e : Entry) → is_shape (entry_command (256 + fresh_count p.written) e) ≡ is_shape_entry e
    → add (drafted p) (entry_command (256 + fresh_count p.written) e) ≡ drafted (pass p at g e)
draft_pass p at g (Shape x) h = draft_shape p at g x
draft_pass p at g (Other command) h = draft_other p at g command h

fresh_pass : (p : Progress) (at g : ℕ) (e : Entry) → fresh_rules 256 p.written ++ entry_inside (256 + fresh_count p.written) e ≡ fresh_rules 256 (pass p at g e).written
unfolding pass
fresh_pass p at g (Shape x) = sym (fresh_rules_more 256 p.written x)
fresh_pass p at g (Other command) = append-nil (fresh_rules 256 p.written)

named_pass : (p : Progress) (at g : ℕ) (e : Entry) → p.named ++ named_at at (entry_names e) ≡ (pass p at g e).named
unfolding pass
named_pass p at g (Shape x) = refl
named_pass p at g (Other command) = refl

end_entry : (n : ℕ) (e : Entry) → is_end (entry_command n e) ≡ is_end_entry e
end_entry n (Shape x) = refl
end_entry n (Other command) = refl

-- a fault of the end that is none
unknown_none : (n : ℕ) (l : List Note) → (unknown_shape n l).number ≡ 0 → unknown_shape n l ≡ no_refusal
unfolding unknown_shape
unknown_none n [] h = refl
unknown_none n (r ∷ l) h =
    by_test (ltb r.shape n)
    (λ e. rw e (unknown_none n l (rw e at h)))
    (λ e. absurd (let z : ◌≡◌ {A = ℕ} 9 0 = rw e at h in omega arith))

fault_none : (s : List ℕ) (end : ℕ) (p : Progress) → (after_end s end p).number ≡ 0 → after_end s end p ≡ no_refusal
unfolding after_end
fault_none s end p h =
    by_test (ltb end (length s))
    (λ e. absurd (let z : ◌≡◌ {A = ℕ} 8 0 = rw e at h in omega arith))
    (λ e. rw e (unknown_none (length p.written) p.named (rw e at h)))

-- the three answers at the end of the input
module _ {bytes end : ℕ} {reached : Reached} {fresh named rows : List ℕ} where
  pub ended_after : end < bytes → EndedAs bytes end reached fresh named rows (refused_as 8 end) rows
  unfolding end_fault
  ended_after h = record { refusal_is = rw (lt-ltb end bytes h); long = refl; refused = λ n. refl; expanded = λ (z : ◌≡◌ {A = ℕ} 8 0). absurd (omega arith) }

  module _ (h : bytes ≤ end) {u : Refusal} (q : u ≡ unknown_shape reached.counts.shapes (named_in named reached.noted)) where
    pub ended_unknown : (u.number ≡ 0 → ⊥) → EndedAs bytes end reached fresh named rows (refused_as u.number u.place) rows
    unfolding end_fault
    ended_unknown n = record { refusal_is = q ∙ rw (le-ltb end bytes h); long = refl; refused = λ n. refl; expanded = λ z. absurd (n z) }

    pub ended_well : u.number ≡ 0 → {counts' : Counts} {rows' : List ℕ} → ExpandedAs reached.counts fresh reached.fresh rows counts' rows'
        → EndedAs bytes end reached fresh named rows (record { refusal = no_refusal; counts = counts' }) rows'
    unfolding end_fault
    ended_well z x = record {
      refusal_is = rw (le-ltb end bytes h) (sym (unknown_none reached.counts.shapes (named_in named reached.noted) (rw q at z)));
      long = x.long;
      refused = λ n. absurd (n refl);
      expanded = λ n. x;
    }

-- the end command adds nothing
end_nothing : (n : ℕ) (e : Entry) → is_end_entry e ≡ true → (entry_inside n e ≡ []) × (entry_names e ≡ [])
unfolding shapes_named
end_nothing n (Shape x) h = absurd (false≢true h)
end_nothing n (Other (Nodes m)) h = absurd (false≢true h)
end_nothing n (Other (EdgeCommand e)) h = absurd (false≢true h)
end_nothing n (Other (PathCommand r)) h = absurd (false≢true h)
end_nothing n (Other (ShapeCommand r)) h = absurd (false≢true h)
end_nothing n (Other (TargetCommand t)) h = absurd (false≢true h)
end_nothing n (Other End) h = (refl, refl)

-- ---- The noted shapes are few

names_size : (x : Part) → length (names x) ≤ size x + 1
unfolding names size
names_size (Named s) = omega arith
names_size (Plain r) = omega (arith, few_references r)
names_size (Around r x) = omega (arith, names_size x)
names_size (Joining r x y) = omega (arith, names_size x, names_size y, length-append (names x) (names y))

names_few : (x : Part) → length (names x) ≤ inner_size x + 2
unfolding names inner_size
names_few (Named s) = omega arith
names_few (Plain r) = omega (arith, few_references r)
names_few (Around r x) = omega (arith, names_size x)
names_few (Joining r x y) = omega (arith, names_size x, names_size y, length-append (names x) (names y))

pub record NotesFew (p : Progress) : Type 0 where
  pub few : length p.named ≤ 2 * length (expansion p.written) + length p.case.targets

length_noted : (at : ℕ) (l : List ℕ) → length (named_at at l) ≡ length l
unfolding named_at
length_noted at l = simp length-map

command_few : (p : Progress) (at g : ℕ) (command : Command) → is_shape command ≡ false → NotesFew p → NotesFew (pass p at g (Other command))
unfolding pass add shapes_named
command_few p at g (Nodes n) h f = record { few = omega (arith, f, length-append p.named (named_at at []), length_noted at []) }
command_few p at g (EdgeCommand e) h f = record { few = omega (arith, f, length-append p.named (named_at at []), length_noted at []) }
command_few p at g (PathCommand r) h f = record { few = omega (arith, f, length-append p.named (named_at at []), length_noted at []) }
command_few p at g (ShapeCommand r) h f = absurd (false≢true (sym h))
command_few p at g (TargetCommand t) h f =
    let l = t.shape.0 ∷ [] in
    record { few = omega (arith, f, length-append p.named (named_at at l), length_noted at l, length-append p.case.targets (t ∷ [])) }
command_few p at g End h f = record { few = omega (arith, f, length-append p.named (named_at at []), length_noted at []) }

shape_few : (p : Progress) (at g : ℕ) (x : Part) → NotesFew p → NotesFew (pass p at g (Shape x))
unfolding pass
shape_few p at g x f =
    let l = p.written ++ (x ∷ []) in
    record {
      few = omega (
        arith,
        f,
        length-append p.named (named_at at (names x)),
        length_noted at (names x),
        names_few x,
        length_expansion p.written,
        length_expansion l,
        length-append p.written (x ∷ []),
        fresh_count_more p.written x,
      );
    }

few_pass : (p : Progress) (at g n : ℕ) (e : Entry) → is_shape (entry_command n e) ≡ is_shape_entry e → NotesFew p → NotesFew (pass p at g e)
few_pass p at g n (Shape x) h f = shape_few p at g x f
few_pass p at g n (Other command) h f = command_few p at g command h f

-- ---- The loop that reads

-- the invariant: what the whole input comes to is what the walk comes to from here, with what has been read, and that is what the tables hold
pub record Going (s : List ℕ) (at : ℕ) (reached : Reached) (rows fresh named : List ℕ) : Type 0 where
  pub full : Full rows
  pub fresh_long : length fresh ≡ 2168
  pub named_long : length named ≡ 1660
  pub progress : Progress
  pub profile_is : progress.profile ≡ reached.profile
  pub last_is : progress.last ≡ reached.last
  pub case_is : case_in reached.counts rows ≡ drafted progress
  pub rules_are : rules_in fresh reached.fresh ≡ fresh_rules 256 progress.written
  pub notes_are : named_in named reached.noted ≡ progress.named
  pub sound : SoundSoFar progress
  pub few : NotesFew progress
  pub fuel : ℕ
  pub enough : length s < at + fuel
  pub same : walk fuel s at progress ≡ walked s

none_in : (rows : List ℕ) → case_in (nothing_reached 0).counts rows ≡ empty_case
unfolding case_in up_to from empty_case
none_in rows = refl

pub going_none : {s rows fresh named : List ℕ} {profile width : ℕ} {reached : Reached} → heading_of s ≡ HeadingIs profile width → Full rows → length fresh ≡ 2168
    → length named ≡ 1660 → reached ≡ nothing_reached profile → Going s width reached rows fresh named
unfolding walked walked_from drafted start empty_case rules fresh_rules rules_in named_in up_to from HeadingShows
going_none {s} {rows} {profile = profile} h full f n e = rw e (record {
  full = full;
  fresh_long = f;
  named_long = n;
  progress = start profile;
  profile_is = refl;
  last_is = refl;
  case_is = none_in rows;
  rules_are = refl;
  notes_are = refl;
  sound = start_sound profile (rw h at (heading_shows s)).0;
  few = record { few = omega arith };
  fuel = suc (length s);
  enough = omega arith;
  same = rw h;
})

-- the part that starts at an offset, as the loop lends it
pub take_rest : (s : List ℕ) (at : ℕ) → take (length s - at) (drop at s) ≡ drop at s
take_rest s at = take_all (length s - at) (drop at s) (omega (arith, length-drop at s))

-- what the input comes to is sound and fits its tables
parsed_as : {s : List ℕ} {r : Parsed} {rows : List ℕ} → Full rows → ◌≡◌ {A = Outcome} (record { refusal = r.refusal; case = case_in r.counts rows }) (outcome s) → ParsedAs s r rows
parsed_as {s} {r} {rows} full e =
    let same : (outcome s).case ≡ case_in r.counts rows = ap (λ (o : Outcome). o.case) (sym e) in
    record {
      comes_to = e;
      held = record { sound = rw same at (outcome_sound s); fit = limited_fit (counts_in r.counts rows) (rw same at (outcome_limited s)); full = full };
    }

expanded_start : expanded (start 0) ≡ empty_case
unfolding expanded start empty_case expansion rules fresh_rules
expanded_start = refl

refused_in : (n at : ℕ) (s rows : List ℕ) → Full rows → refused n at ≡ walked s → ParsedAs s (refused_as n at) rows
unfolding refused outcome
refused_in n at s rows full e = parsed_as full (rw (none_in rows, ← e, expanded_start))

pub heading_refused : {s rows : List ℕ} {n : ℕ} → Full rows → HeadingRefused n ≡ heading_of s → ParsedAs s (refused_as n 0) rows
unfolding walked walked_from
heading_refused {s} {rows} {n} full e = refused_in n 0 s rows full (rw (← e))

module _ {s : List ℕ} {at : ℕ} {reached : Reached} {rows fresh named : List ℕ} (g : Going s at reached rows fresh named) where
  counts_are : counts_so_far g.progress ≡ reached.counts
  counts_are = sym (drafted_counts g.progress) ∙ rw (← g.case_is) (counts_in reached.counts rows)

  fresh_is : fresh_count g.progress.written ≡ reached.fresh
  fresh_is = sym (length_fresh_rules 256 g.progress.written) ∙ rw (← g.rules_are) (length_rules_in fresh reached.fresh)

  stands : Stands g.progress reached
  stands = record { profile_is = g.profile_is; last_is = g.last_is; counts_are = counts_are; fresh_is = fresh_is }

  edges_are : map (edge_in rows) (up_to reached.counts.edges) ≡ g.progress.case.edges
  unfolding case_in drafted
  edges_are = ap (λ c. c.edges) g.case_is

  noted_is : reached.noted ≡ length g.progress.named
  noted_is = sym (length_named named reached.noted) ∙ ap length g.notes_are

  shapes_are : length (expansion g.progress.written) ≡ reached.counts.shapes + reached.fresh
  unfolding counts_so_far
  shapes_are = omega (arith, length_expansion g.progress.written, ap (λ k. k.shapes) counts_are, fresh_is)

  few_kept : length (expansion g.progress.written) ≤ 32
  few_kept = omega (arith, g.sound.kept.few, shapes_at_most g.progress.profile)

  within : StoredWithin reached.counts
  unfolding counts_so_far
  within =
      let k = g.sound.kept in
      rw (← counts_are) (record { edges = k.edges.limited; paths = k.paths.limited; shapes = omega (arith, few_kept, length_expansion g.progress.written); targets = k.targets.limited })

  pub going_over : length s ≤ at → ParsedAs s (refused_as 3 at) rows
  going_over h = refused_in 3 at s rows g.full (sym (walk_over s at g.progress g.fuel h) ∙ g.same)

  -- the fuel that is left after one step
  left : at < length s → (f : ℕ) × (g.fuel ≡ suc f)
  left h = (g.fuel - 1, omega (arith, g.enough))

  pub row_room : RowRoom reached.counts.edges rows
  row_room = record { few = omega (arith, within); full = g.full }

  pub find_room : at < length s → FindRoom (take (length s - at) (drop at s)) reached fresh named
  find_room h = record {
    some = rw (take_rest s at) (omega (arith, length-drop at s));
    few = omega (arith, shapes_are, few_kept);
    rows = omega (arith, shapes_are, few_kept, g.fresh_long);
    notes = omega (arith, shapes_are, few_kept, g.few, noted_is, g.sound.kept.targets, g.named_long);
  }

  module _ (h : at < length s) {answer : Result Finding Faulted} {fresh' named' : List ℕ} (f : FoundAs (take (length s - at) (drop at s)) at reached rows fresh named answer fresh' named') where
    pub answer_is : AnswerIs (found_at g.progress (drop at s)) at reached fresh named answer fresh' named'
    unfolding found_at
    answer_is = rw (← take_rest s at) (rw edges_are at (f.found.is g.progress stands))

    pub going_refused : {fault : Faulted} → answer ≡ Err fault → ParsedAs s (refused_as (fault_number fault) at) rows
    unfolding AnswerIs stepped
    going_refused {fault} e =
        let number = fault_number fault in
        let i : found_at g.progress (drop at s) ≡ Fault number = rw e at answer_is in
        let w = walk_step s at g.progress (left h).0 h (Fault number) i in
        refused_in number at s rows g.full (sym w ∙ rw (← (left h).1) g.same)

    module _ {finding : Finding} (e : answer ≡ Ok finding) where
      abbrev command : Command
      command = finding.accepted.command

      abbrev row : Row
      row = finding.accepted.row

      abbrev taken : Taken
      taken = finding.accepted.taken

      adds : Adds (found_at g.progress (drop at s)) at reached fresh named command row taken finding.fresh finding.noted fresh' named'
      unfolding AnswerIs
      adds = rw e at answer_is

      onward : stepped (walk (left h).0 s) s at g.progress (Good adds.entry taken) ≡ walked s
      onward = sym (walk_step s at g.progress (left h).0 h (Good adds.entry taken) adds.is) ∙ rw (← (left h).1) g.same

      shows : Shows g.progress (drop at s) adds.entry taken × Admitted g.progress adds.entry
      unfolding GoodShows
      shows = rw adds.is at (found_shows g.progress (drop at s))

      -- the number of the next fresh shape
      number_is : 256 + reached.fresh ≡ 256 + fresh_count g.progress.written
      number_is = omega (arith, fresh_is)

      command_is : command ≡ entry_command (256 + fresh_count g.progress.written) adds.entry
      command_is = adds.command_is ∙ rw number_is

      shaped : is_shape (entry_command (256 + fresh_count g.progress.written) adds.entry) ≡ is_shape_entry adds.entry
      shaped = rw (← command_is) adds.shaped

      -- what the command takes is there
      pub taken_fits : at + taken.width ≤ length s
      taken_fits = omega (arith, length-drop at s, shows.0.whole)

      pub taken_some : 0 < taken.width
      taken_some = shows.0.some

      entry_limit : (n : ℕ) (o : Entry) → EntryShows g.progress (drop at s) taken.group o → within_limit g.progress.profile (counts_so_far g.progress) (entry_command n o) ≡ true
      unfolding EntryShows counts_so_far
      entry_limit n (Shape x) i = i.limit
      entry_limit n (Other c) i = i.limit

      pub store_room : StoreRoom command row reached.counts rows
      store_room = record {
        said = adds.said;
        within = within;
        profile = g.progress.profile;
        more = rw (← counts_are, command_is) (entry_limit (256 + fresh_count g.progress.written) adds.entry shows.0.entry);
        full = g.full;
      }

      pub going_more : {end : Bool} → end ≡ is_end command → end ≡ false → {counts' : Counts} {rows' : List ℕ} → Stored command reached.counts rows counts' rows'
          → Going s (at + taken.width) (record { profile = reached.profile; last = taken.group; counts = counts'; fresh = finding.fresh; noted = finding.noted }) rows' fresh' named'
      unfolding stepped
      going_more q d {counts'} {rows'} a =
          let p = g.progress in
          let o = adds.entry in
          let going_on : is_end_entry o ≡ false = sym (end_entry (256 + fresh_count p.written) o) ∙ rw (← command_is) (sym q ∙ d) in
          record {
            full = record { fits = omega (arith, g.full, a.long) };
            fresh_long = f.found.fresh_long ∙ g.fresh_long;
            named_long = f.found.named_long ∙ g.named_long;
            progress = pass p at taken.group o;
            profile_is = profile_pass p at taken.group o ∙ g.profile_is;
            last_is = last_pass p at taken.group o;
            case_is = a.added ∙ ap (λ c. add c command) g.case_is ∙ ap (add (drafted p)) command_is ∙ draft_pass p at taken.group o shaped;
            rules_are = adds.rules ∙ rw (g.rules_are, number_is) (fresh_pass p at taken.group o);
            notes_are = adds.notes ∙ rw g.notes_are (named_pass p at taken.group o);
            sound = sound_pass s at p o taken shows.0 shows.1 g.sound;
            few = few_pass p at taken.group (256 + fresh_count p.written) o shaped g.few;
            fuel = (left h).0;
            enough = omega (arith, g.enough, (left h).1, taken_some);
            same = rw going_on at onward;
          }

      pub end_room : EndRoom reached fresh' named' rows
      end_room = record {
        expand = record {
          few = omega (arith, shapes_are, few_kept);
          edges = omega (arith, within);
          paths = omega (arith, within);
          there = omega (arith, shapes_are, few_kept, g.fresh_long, f.found.fresh_long);
          full = g.full;
        };
        notes = omega (arith, shapes_are, few_kept, g.few, noted_is, g.sound.kept.targets, g.named_long, f.found.named_long);
      }

      module _ {end : Bool} (q : end ≡ is_end command) (d : end ≡ true) where
        ends : is_end_entry adds.entry ≡ true
        ends = sym (end_entry (256 + fresh_count g.progress.written) adds.entry) ∙ sym (ap is_end command_is) ∙ sym q ∙ d

        -- the end command leaves the tables
        rules_kept : rules_in fresh' reached.fresh ≡ fresh_rules 256 g.progress.written
        rules_kept =
            let own = entry_inside (256 + reached.fresh) adds.entry in
            let none : own ≡ [] = (end_nothing (256 + reached.fresh) adds.entry ends).0 in
            let same : finding.fresh ≡ reached.fresh = rules_count fresh fresh' reached.fresh finding.fresh own adds.rules ∙ rw none (omega arith) in
            rw (← same) (adds.rules ∙ rw none (append-nil (rules_in fresh reached.fresh) ∙ g.rules_are))

        notes_kept : named_in named' reached.noted ≡ g.progress.named
        unfolding named_at
        notes_kept =
            let none = (end_nothing (256 + reached.fresh) adds.entry ends).1 in
            let all_notes : named_in named' finding.noted ≡ named_in named reached.noted = adds.notes ∙ rw none (append-nil (named_in named reached.noted)) in
            let same : finding.noted ≡ reached.noted = sym (length_named named' finding.noted) ∙ ap length all_notes ∙ length_named named reached.noted in
            rw (← same) (all_notes ∙ g.notes_are)

        walk_ends : finish s (at + 1) g.progress ≡ walked s
        unfolding stepped
        walk_ends = rw ends at onward

        fault_is : {r : Parsed} {rows' : List ℕ} → EndedAs (length s) (at + 1) reached fresh' named' rows r rows' → r.refusal ≡ after_end s (at + 1) g.progress
        unfolding end_fault after_end counts_so_far
        fault_is i = i.refusal_is ∙ rw (notes_kept, ← ap (λ k. k.shapes) counts_are)

        -- where nothing is at fault, names are written shapes, and fresh ones get their numbers
        expanded_is : {counts' : Counts} {rows' : List ℕ} → (after_end s (at + 1) g.progress).number ≡ 0 → ExpandedAs reached.counts fresh' reached.fresh rows counts' rows'
            → case_in counts' rows' ≡ expanded g.progress
        unfolding expanded drafted counts_so_far
        expanded_is z x =
            let p = g.progress in
            let w = length p.written in
            let few : w ≤ 32 = omega (arith, length_expansion p.written, few_kept) in
            let known = (g.sound.named w (after_end_none s (at + 1) p z)).shapes in
            let bytes = all_mono p.written (λ y. all (names y) (λ q. ltb q w)) (λ y. all (names y) (λ q. ltb q 256))
            (λ y. all_mono (names y) (λ q. ltb q w) (λ q. ltb q 256) (λ q k. omega (arith, tests))) known in
            x.case_is ∙ rw (g.case_is, rules_kept, ← ap (λ k. k.shapes) counts_are, expansion_moved p.written bytes)

        pub going_ended : {r : Parsed} {rows' : List ℕ} → EndedAs (length s) (at + 1) reached fresh' named' rows r rows' → ParsedAs s r rows'
        unfolding finish outcome
        going_ended {r} {rows'} i =
            let p = g.progress in
            let fault = after_end s (at + 1) p in
            let full : Full rows' = record { fits = omega (arith, g.full, i.long) } in
            by_test (eqb fault.number 0)
            (λ z.
            let zero_is : fault.number ≡ 0 = eqb-true fault.number 0 z in
            let c = expanded_is zero_is (i.expanded (rw (fault_is i) zero_is)) in
            parsed_as full (rw (← walk_ends, z, fault_is i, fault_none s (at + 1) p zero_is, c)))
            (λ z. parsed_as full (rw (← walk_ends, z, fault_is i, i.refused (rw (fault_is i) (eqb-false fault.number 0 z)), none_in rows', expanded_start)))

-- ---- What reading answers

module _ {s rows : List ℕ} where
  pub read_as : {counts : Counts} → ParsedAs s (record { refusal = no_refusal; counts = counts }) rows → reading_of counts ≡ reading s
  unfolding reading
  read_as {counts} p = rw (← p.comes_to, counts_in counts rows)

  pub refused_read : {n at : ℕ} → ParsedAs s (refused_as n at) rows
      → record { number = n; place = at; nodes = 0; edges = 0; paths = 0; shapes = 0; targets = 0 } ≡ reading s
  unfolding reading
  refused_read {n} {at} p = rw (← p.comes_to, counts_in (refused_as n at).counts rows)
