-- An unfinished solve of any contents: when an advance takes a round, and when a question is refused. Document 02, point 7. Assumes nothing.
use Prim.Native.Nat.{ℕ, ◌<◌, ◌≤◌}
use mathlib.Core.Path.{◌≡◌}
use borrow.Author.Tests.{ne_eqb, eq-eqb, lt-ltb, le-ltb}
use Rattle.semantics.specs.Unfinished.{held_case, after_round, advanced, certain_of, replied, asked}
use Rattle.semantics.specs.declared.ongoing.Unfinished.{Unfinished}

pub before_end : (u : Unfinished) → u.over ≡ 0 → advanced u ≡ after_round (held_case u) u
unfolding advanced
before_end u h = rw (eq-eqb u.over 0 h)

-- "one after it alters nothing"
pub rests_after_end : (u : Unfinished) → (u.over ≡ 0 → ⊥) → advanced u ≡ u
unfolding advanced
rests_after_end u h = rw (ne_eqb u.over 0 h)

-- "21 pair not below the pair count, place the pair, the only check of a question"
pub asked_beyond : (u : Unfinished) (k : ℕ) → u.pairs ≤ k → asked u k ≡ record { number = 21; place = k; reply = 0 }
unfolding asked
asked_beyond u k h = rw (le-ltb k u.pairs h)

pub asked_within : (u : Unfinished) (k : ℕ) → k < u.pairs → asked u k ≡ replied (certain_of u k)
unfolding asked
asked_within u k h = rw (lt-ltb k u.pairs h)
