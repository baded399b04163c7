-- A set that is filled number by number. Assumes nothing.
use Prim.Native.Nat.{ℕ, ◌+◌}
use native.Mathlib.Omega.{arith}
use mathlib.Core.Path.{◌≡◌}
use mathlib.Core.Bool.{Bool, ◌&&◌, ◌||◌, or-false}
use lib.Dec.{eqb, ltb}
use borrow.Author.Tests.{eqb-true, eqb-false, lt-ltb, le-ltb}
use Rattle.fixpoint.proofs.Lists.{by_test}
use Rattle.bitset.proofs.Bits.{below_next}

-- the numbers below a that pass a test, and a if it does, are those below a + 1 that do
pub one_more : (f : ℕ → Bool) (b a : ℕ) → ((eqb b a && f a) || (ltb b a && f b)) ≡ (ltb b (a + 1) && f b)
one_more f b a =
    by_test (eqb b a)
    (λ e. let q : b ≡ a = eqb-true b a e in rw (e, q, lt-ltb a (a + 1) (omega arith), le-ltb a a (omega arith)) (or-false (f a)))
    (λ e. rw (e, below_next b a (eqb-false b a e)))
