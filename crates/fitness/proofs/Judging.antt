-- What is read where a command should start, by the tests of refusals 1 to 7 in their order. Assumes nothing.
use Rattle.std.specs.Prelude.{Option, Some, None}
use Prim.Native.Nat.{ℕ}
use native.Mathlib.Omega.{arith}
use mathlib.Core.Path.{◌≡◌, ◌∙◌}
use mathlib.Core.Bool.{Bool, true, false, not}
use mathlib.Core.List.{List}
use lib.ListN.{get_or}
use lib.Dec.{ltb}
use borrow.Author.Tests.{lt-ltb, le-ltb}
use Rattle.cases.specs.Reading.{Step, Refused}
use Rattle.cases.specs.declared.answers.Taken.{Taken}
use Rattle.cases.specs.declared.command.Command.{Command}
use Rattle.cases.specs.declared.command.Row.{Row}
use Rattle.cases.specs.declared.counts.Counts.{Counts}
use Rattle.cases.specs.declared.format.Format.{Format}
use Rattle.cases.specs.Format.{format_of, group_of, width_of, taken_by, taken_of, row_of, complete, operands_by, command_of, command_at}
use Rattle.cases.specs.Faults.{in_order}
use Rattle.cases.specs.Reading.{judged, step_at}
use Rattle.cases.proofs.Formats.{group_at_most, passed, failed, cut, completed}

module _ (profile last : ℕ) (k : Counts) (s : List ℕ) {f : Format} (o : f ≡ format_of (get_or s 0 0)) {taken : Taken} (t : taken ≡ taken_by f) where
  pub step_unknown : taken.group ≡ 7 → Refused 1 ≡ step_at profile last k s
  unfolding step_at
  step_unknown u = let e : ltb (group_of (get_or s 0 0)) 7 ≡ false = le-ltb (group_of (get_or s 0 0)) 7 (omega (arith, rw (t, o) at u)) in rw e

  module _ (d : taken.group ≡ 7 → ⊥) where
    known : ltb (group_of (get_or s 0 0)) 7 ≡ true
    known = lt-ltb (group_of (get_or s 0 0)) 7 (let n = rw (t, o) at d in omega (arith, group_at_most (get_or s 0 0)))

    module _ {b : Bool} (h : b ≡ in_order last taken.group) where
      pub step_disordered : not b ≡ true → Refused 2 ≡ step_at profile last k s
      unfolding step_at
      step_disordered e = rw (known, rw (t, o) at (failed h e))

      module _ (g : not b ≡ false) {operands : Option Row} (r : operands ≡ operands_by f s) where
        ordered : in_order last (group_of (get_or s 0 0)) ≡ true
        ordered = rw (t, o) at (passed h g)

        pub step_cut : operands ≡ None → Refused 3 ≡ step_at profile last k s
        unfolding step_at operands_by complete width_of
        step_cut e = rw (known, ordered, cut s (rw o at r) e)

        pub step_judged : {row : Row} → operands ≡ Some row → {command : Command} → command ≡ command_of taken.group row
            → {step : Step} → step ≡ judged profile k command row taken → step ≡ step_at profile last k s
        unfolding step_at operands_by complete width_of row_of command_at taken_of
        step_judged e q j = let w = completed s (rw o at r) e in j ∙ rw (q, t, o, known, ordered, w.0, w.1)
