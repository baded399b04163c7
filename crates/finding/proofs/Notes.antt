-- The shapes that a command names, noted in a table. Assumes nothing.
use Prim.Native.Nat.{ℕ, ◌+◌, ◌*◌, ◌≤◌}
use native.Mathlib.Omega.{arith}
use mathlib.Core.Path.{◌≡◌}
use mathlib.Core.List.{List, [], ◌∷◌}
use lib.ListN.{length}
use Rattle.cases.specs.declared.command.Command.{Command}
use Rattle.cases.specs.declared.command.Command.TheVariants.{Shape as ShapeCommand, Target as TargetCommand}
use Rattle.cases.specs.declared.command.ShapeRule.{ShapeRule}
use Rattle.cases.specs.declared.command.Target.{Target}
use Rattle.cases.specs.declared.numbers.Shape.{Shape}
use Rattle.cases.specs.declared.few.Few.{Few}
use Rattle.cases.specs.declared.few.Few.TheVariants.{No, Two}
use Rattle.cases.specs.Case.{references}
use Rattle.cases.specs.Reading.{shapes_named}
use Rattle.cases.specs.References.{listed}
use Rattle.parts.specs.Tables.{NoteRoom, Noted}
use Rattle.parts.proofs.Notes.{noted_none, noted_then}

-- By the references of a rule
pub noted_of_two : {r : Few Shape} {n : ℕ} {t : List ℕ} {place n' : ℕ} {t' : List ℕ} {s q : Shape} {n₁ : ℕ} {t₁ : List ℕ} → r ≡ Two s q
    → Noted (s.0 ∷ []) place n t n₁ t₁ → Noted (q.0 ∷ []) place n₁ t₁ n' t' → Noted (listed r) place n t n' t'
noted_of_two e u v = rw e (noted_then u v)

pub noted_of_none : {r : Few Shape} {place n : ℕ} {t : List ℕ} → r ≡ No → Noted (listed r) place n t n t
noted_of_none e = rw e noted_none

-- By the command
module _ {command : Command} {n : ℕ} {t : List ℕ} where
  pub room_shape : {rule : ShapeRule} {l : List ℕ} → command ≡ ShapeCommand rule → l ≡ references rule → NoteRoom (shapes_named command) n t → NoteRoom l n t
  unfolding shapes_named
  room_shape e q h = rw q (rw e at h)

  pub room_target : {g : Target} → command ≡ TargetCommand g → NoteRoom (shapes_named command) n t → 2 * n + 2 ≤ length t
  unfolding shapes_named
  room_target e h = let f = rw e at h.fits in omega arith

  module _ {place n' : ℕ} {t' : List ℕ} where
    pub noted_of_shape : {rule : ShapeRule} {l : List ℕ} → command ≡ ShapeCommand rule → l ≡ references rule → Noted l place n t n' t'
        → Noted (shapes_named command) place n t n' t'
    unfolding shapes_named
    noted_of_shape e q u = rw e (rw q at u)

    pub noted_of_target : {g : Target} → command ≡ TargetCommand g → Noted (g.shape.0 ∷ []) place n t n' t' → Noted (shapes_named command) place n t n' t'
    unfolding shapes_named
    noted_of_target e u = rw e u

-- a command that names no shape
pub noted_of_other : {command other : Command} {place n : ℕ} {t : List ℕ} → command ≡ other → shapes_named other ≡ [] → Noted (shapes_named command) place n t n t
noted_of_other e q = rw (e, q) noted_none
