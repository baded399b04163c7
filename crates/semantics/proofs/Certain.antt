-- The value that a byte of a state stands for, and what is certain of a pair, by its value and whether the end is reached. Assumes nothing.
use Prim.Native.Nat.{ℕ, ◌<◌, ◌≤◌, min}
use native.Mathlib.Omega.{arith}
use mathlib.Core.Path.{◌≡◌}
use mathlib.Core.Bool.{Bool, true, false}
use lib.Dec.{leb}
use borrow.Author.Tests.{le-leb, lt-leb, leb-true, leb-false, eq-eqb, ne_eqb}
use Rattle.fixpoint.proofs.Lists.{by_test}
use Rattle.semantics.specs.Values.{byte_says, said_value_or_fault}
use Rattle.std.specs.Result.{result_unwrap_or}
use Rattle.semantics.specs.Unfinished.{certainty}
use Rattle.semantics.specs.declared.ongoing.Certainty.TheVariants.{Impossible, Open, Sure, NotYet}

-- a byte that says a value stands for it, one that says none for 2
pub held : (b : ℕ) → (result_unwrap_or (said_value_or_fault (byte_says b)) (record { 0 = 2 })).0 ≡ min b 2
unfolding byte_says
held b =
    by_test (leb b 2)
    (λ h. let few = leb-true b 2 h in rw h (omega arith))
    (λ h. let more = leb-false b 2 h in rw h (omega arith))

module _ (v : ℕ) (over : Bool) where
  pub sure_said : 2 ≤ v → Sure ≡ certainty v over
  unfolding certainty
  sure_said h = rw (le-leb 2 v h)

  pub impossible_said : v < 2 → v ≡ 0 → Impossible ≡ certainty v over
  unfolding certainty
  impossible_said h z = rw (lt-leb 2 v h, eq-eqb v 0 z)

  module _ (h : v < 2) (n : v ≡ 0 → ⊥) where
    pub open_said : over ≡ true → Open ≡ certainty v over
    unfolding certainty
    open_said e = rw (lt-leb 2 v h, ne_eqb v 0 n, e)

    pub not_yet_said : over ≡ false → NotYet ≡ certainty v over
    unfolding certainty
    not_yet_said e = rw (lt-leb 2 v h, ne_eqb v 0 n, e)
