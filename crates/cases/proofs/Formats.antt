-- What a branch on a negated test says of the test, what the operand reader's answer says of the part that it read, and the groups of
-- commands. Assumes nothing.
use Rattle.std.specs.Prelude.{Option, Some, None}
use mathlib.Core.Path.{◌≡◌, sym, ◌∙◌}
use mathlib.Core.Logic.{⊎_elim}
use mathlib.Core.Bool.{Bool, true, false, cond, not}
use mathlib.Core.List.{List}
use Prim.Native.Nat.{ℕ, ◌≤◌}
use lib.Dec.{eqb, leb}
use borrow.Author.Tests.{not-true, not-false, leb-true}
use Rattle.fixpoint.proofs.Lists.{bool_cases, by_test}
use Rattle.cases.specs.declared.command.Row.{Row}
use Rattle.cases.specs.declared.format.Format.{Format}
use Rattle.cases.specs.Format.{format_of, group_of, width_of, complete, operands_of, operands_by, row_of}

pub failed : {test answer : Bool} → answer ≡ test → not answer ≡ true → test ≡ false
failed {test} {answer} e h = sym e ∙ not-true answer h

pub passed : {test answer : Bool} → answer ≡ test → not answer ≡ false → test ≡ true
passed {test} {answer} e h = sym e ∙ not-false answer h

-- a group is 7 at most, that of an unknown byte
record Grouped (f : Format) : Type 0 where
  grouped : f.0 ≤ 7

choose_group : (b n : ℕ) (x y : Format) → Grouped x → Grouped y → Grouped (cond (eqb b n) x y)
choose_group b n x y h k = by_test (eqb b n) (λ e. rw e h) (λ e. rw e k)

this_group : (g x y z : ℕ) → leb g 7 ≡ true → Grouped (g, x, y, z)
this_group g x y z h = record { grouped = leb-true g 7 h }

format_grouped : (b : ℕ) → Grouped (format_of b)
unfolding format_of
format_grouped b = search (choose_group, this_group) depth 64

pub group_at_most : (b : ℕ) → group_of b ≤ 7
group_at_most b = (format_grouped b).grouped

module _ {answer : Option Row} (s : List ℕ) (read : answer ≡ operands_of s) where
  pub cut : answer ≡ None → complete s ≡ false
  unfolding operands_by complete width_of row_of
  cut h = ⊎_elim (λ e. cc) (λ e. e) (bool_cases (complete s))

  pub completed : {row : Row} → answer ≡ Some row → (complete s ≡ true) × (row_of s ≡ row)
  unfolding operands_by complete width_of row_of
  completed h = ⊎_elim (λ e. (e, cc)) (λ e. (cc, cc)) (bool_cases (complete s))
