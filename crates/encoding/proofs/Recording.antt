-- Every edge of a case that reading gives is laid by an 02, or parked by a 03 behind one. Document 02, point 4. Assumes nothing.
use Prim.Native.Nat.{ℕ}
use mathlib.Core.Path.{◌≡◌, refl}
use mathlib.Core.Bool.{Bool, true, not, ◌&&◌, ◌||◌, false≢true, and-eq-true_iff}
use mathlib.Core.List.{List, [], ◌∷◌, ◌++◌, append_assoc, append-nil}
use lib.Dec.{eqb}
use Rattle.fixpoint.proofs.Lists.{by_test}
use Rattle.cases.specs.declared.command.Command.{Command}
use Rattle.cases.specs.declared.command.Command.TheVariants.{Nodes, End}
use Rattle.cases.specs.declared.command.Command.TheVariants.{Edge as EdgeCommand, Path as PathCommand, Shape as ShapeCommand, Target as TargetCommand}
use Rattle.cases.specs.declared.command.Edge.{Edge}
use Rattle.cases.specs.Case.{Case, empty_case}
use Rattle.cases.specs.Faults.{laid, edge_there}
use Rattle.cases.specs.Reading.{Progress, start, add, Entry, Shape, Other, pass, after_end, refused, finish, walked, expanded, profile_of, outcome}
use Rattle.cases.specs.Sound.{recorded, Recorded}
use Rattle.cases.proofs.Steps.{edge_coded, EntryShows, Admitted, walked_keeps}

-- an edge behind others is an 02, or a 03 of one of them
unfoldable pub recorded_at : List Edge → Edge → Bool
recorded_at before e = eqb e.code 0x02 || (eqb e.code 0x03 && laid before e)

-- ---- Lists of edges: one more at the end, and one from the midst

recorded_snoc : (before l : List Edge) (e : Edge) → recorded before l ≡ true → recorded_at (before ++ l) e ≡ true → recorded before (l ++ (e ∷ [])) ≡ true
unfolding recorded recorded_at
recorded_snoc before [] e h k =
    let there : recorded_at before e ≡ true = rw (append-nil before) at k in
    rw there refl
recorded_snoc before (d ∷ l) e h k =
    let both = (and-eq-true_iff (recorded_at before d) (recorded (before ++ (d ∷ [])) l)).0 h in
    let there : recorded_at ((before ++ (d ∷ [])) ++ l) e ≡ true = rw (append_assoc before (d ∷ []) l) k in
    rw both.0 (recorded_snoc (before ++ (d ∷ [])) l e both.1 there)

recorded_from : (before prior : List Edge) (e : Edge) (later : List Edge) → recorded before (prior ++ (e ∷ later)) ≡ true → recorded_at (before ++ prior) e ≡ true
unfolding recorded recorded_at
recorded_from before [] e later h = rw (append-nil before) ((and-eq-true_iff (recorded_at before e) (recorded (before ++ (e ∷ [])) later)).0 h).0
recorded_from before (d ∷ prior) e later h =
    let rest = ((and-eq-true_iff (recorded_at before d) (recorded (before ++ (d ∷ [])) (prior ++ (e ∷ later)))).0 h).1 in
    rw (append_assoc before (d ∷ []) prior) at (recorded_from (before ++ (d ∷ [])) prior e later rest)

pub recorded_in : (c : Case) → Recorded c → (prior : List Edge) (e : Edge) (later : List Edge) → prior ++ (e ∷ later) ≡ c.edges → recorded_at prior e ≡ true
recorded_in c r prior e later is = recorded_from [] prior e later (rw is r.edges_recorded)

-- ---- The walk

record RecordedSoFar (p : Progress) : Type 0 where
  edges : recorded [] p.case.edges ≡ true

-- what 20 lets through
recorded_there : (before : List Edge) (e : Edge) → eqb e.code 0x02 || eqb e.code 0x03 ≡ true → not (eqb e.code 0x03) || laid before e ≡ true
    → recorded_at before e ≡ true
unfolding recorded_at
recorded_there before e h k =
    by_test (eqb e.code 0x02)
    (λ x. rw x refl)
    (λ x. by_test (eqb e.code 0x03)
    (λ y. rw (x, y) (rw y at k))
    (λ y. absurd (false≢true (rw (x, y) at h))))

command_recorded : (p : Progress) (at g : ℕ) (command : Command) → edge_coded command ≡ true → edge_there p.case.edges command ≡ true → RecordedSoFar p
    → RecordedSoFar (pass p at g (Other command))
unfolding edge_coded pass add
command_recorded p at g (Nodes n) h k o = record { edges = o.edges }
command_recorded p at g (EdgeCommand e) h k o = record { edges = recorded_snoc [] p.case.edges e o.edges (recorded_there p.case.edges e h k) }
command_recorded p at g (PathCommand r) h k o = record { edges = o.edges }
command_recorded p at g (ShapeCommand r) h k o = record { edges = o.edges }
command_recorded p at g (TargetCommand t) h k o = record { edges = o.edges }
command_recorded p at g End h k o = record { edges = o.edges }

entry_recorded : (p : Progress) (part : List ℕ) (at g : ℕ) (e : Entry) → EntryShows p part g e → Admitted p e → RecordedSoFar p → RecordedSoFar (pass p at g e)
unfolding EntryShows pass
entry_recorded p part at g (Shape x) h k o = record { edges = o.edges }
entry_recorded p part at g (Other command) h k o = command_recorded p at g command h.coded k.there o

start_recorded : (profile : ℕ) → RecordedSoFar (start profile)
unfolding start empty_case recorded
start_recorded profile = record { edges = refl }

edges_expanded : (p : Progress) → RecordedSoFar p → Recorded (expanded p)
unfolding expanded
edges_expanded p o = record { edges_recorded = o.edges }

pub outcome_recorded : (s : List ℕ) → Recorded (outcome s).case
unfolding outcome walked finish refused
outcome_recorded s =
    walked_keeps RecordedSoFar (λ w. Recorded (expanded w.read)) s
    (λ n at k. edges_expanded (start 0) (start_recorded 0))
    (λ end p k. by_test (eqb (after_end s end p).number 0) (λ e. rw e (edges_expanded p k)) (λ e. rw e (edges_expanded (start 0) (start_recorded 0))))
    (λ at p e taken h k o. entry_recorded p _ at taken.group e h.entry k o)
    (λ h. start_recorded (profile_of s))
