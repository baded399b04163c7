-- What the input begins with: a 00 that is cut, one with an unknown profile, one with a known profile, and no 00. Assumes nothing.
use Rattle.std.specs.Prelude.{Option, Some, None}
use Prim.Native.Nat.{ℕ, ◌<◌}
use native.Mathlib.Omega.{arith}
use mathlib.Core.Path.{◌≡◌, ◌∙◌}
use mathlib.Core.Bool.{Bool, true, false, not, and-eq-true_iff}
use mathlib.Core.List.{List}
use lib.ListN.{length, get_or}
use lib.Dec.{eqb, ltb}
use borrow.Author.Tests.{eqb-true, le-ltb, ne_eqb}
use Rattle.fixpoint.proofs.Lists.{tests, by_test}
use Rattle.cases.specs.Reading.{HeadingIs as Is, HeadingRefused as Refused}
use Rattle.cases.specs.declared.command.Row.{Row}
use Rattle.cases.specs.declared.format.Format.{Format}
use Rattle.cases.specs.Counts.{is_profile}
use Rattle.cases.specs.Format.{format_of, operands_by, operands_of}
use Rattle.cases.specs.Reading.{headed, heading_of}
use Rattle.cases.proofs.Formats.{passed, failed, cut, completed}

module _ (s : List ℕ) (h : headed s ≡ true) where
  both : (ltb 0 (length s) ≡ true) × (eqb (get_or s 0 0) 0x00 ≡ true)
  both = (and-eq-true_iff (ltb 0 (length s)) (eqb (get_or s 0 0) 0x00)).0 h

  pub operands_there : 0 < length s
  operands_there = omega (arith, tests, both.0)

  module _ {f : Format} (o : f ≡ format_of 0x00) {answer : Option Row} (r : answer ≡ operands_by f s) where
    read : answer ≡ operands_of s
    read = r ∙ rw (o, eqb-true (get_or s 0 0) 0x00 both.1)

    pub heading_cut : answer ≡ None → Refused 3 ≡ heading_of s
    unfolding heading_of
    heading_cut e = rw (h, cut s read e)

    module _ {row : Row} (e : answer ≡ Some row) {profile : ℕ} (said : profile ≡ row.1) {b : Bool} (k : b ≡ is_profile profile) where
      pub heading_unknown : not b ≡ true → Refused 22 ≡ heading_of s
      unfolding heading_of
      heading_unknown n = rw (h, (completed s read e).0, (completed s read e).1, ← said, failed k n)

      pub heading_said : not b ≡ false → Is profile 2 ≡ heading_of s
      unfolding heading_of
      heading_said n = rw (h, (completed s read e).0, (completed s read e).1, ← said, passed k n)

pub heading_empty : (s : List ℕ) → length s ≡ 0 → Is 0 0 ≡ heading_of s
unfolding heading_of
heading_empty s h = rw (le-ltb 0 (length s) (omega arith))

pub heading_none : (s : List ℕ) → (get_or s 0 0 ≡ 0 → ⊥) → Is 0 0 ≡ heading_of s
unfolding heading_of
heading_none s h = rw (ne_eqb (get_or s 0 0) 0x00 h) (by_test (ltb 0 (length s)) (λ e. rw e) (λ e. rw e))
