-- What is replied: the byte of a pair and whether the end is reached say what is certain of it. Assumes nothing.
use Prim.Native.Nat.{ℕ, ◌<◌, ◌≤◌, min}
use native.Mathlib.Omega.{arith}
use mathlib.Core.Path.{◌≡◌, sym, ap, ◌∙◌}
use mathlib.Core.Logic.{⊎_elim}
use mathlib.Core.Bool.{Bool, not}
use mathlib.Core.List.{List}
use lib.ListN.{length, get_or, get_or-eq_default}
use lib.Dec.{eqb}
use borrow.Author.Tests.{le-leb}
use Rattle.fixpoint.proofs.Lists.{lt_cases}
use Rattle.semantics.specs.Unfinished.{certainty, certain_of, reply_number, asked}
use Rattle.semantics.specs.declared.ongoing.Unfinished.{Unfinished}
use Rattle.semantics.specs.declared.ongoing.Certainty.{Certainty}
use Rattle.semantics.proofs.States.{asked_within, asked_beyond}

-- a byte above 2 is as good as 2
held_certainty : (b : ℕ) (over : Bool) → certainty (min b 2) over ≡ certainty b over
unfolding certainty
held_certainty b over =
    ⊎_elim
    (λ h. let e : min b 2 ≡ b = omega arith in rw e)
    (λ h. let e : min b 2 ≡ 2 = omega arith in rw (e, le-leb 2 b h))
    (lt_cases b 2)

pub behind_end : (l : List ℕ) (k : ℕ) → length l ≤ k → 0 ≡ get_or l k 0
behind_end l k h = sym (get_or-eq_default l 0 h)

module _ (u : Unfinished) (pair : ℕ) where
  pub certain_said : {b v : ℕ} {k : Certainty} → b ≡ get_or u.values pair 0 → v ≡ min b 2 → k ≡ certainty v (not (eqb u.over 0)) → k ≡ certain_of u pair
  unfolding certain_of
  certain_said {b} e m f = rw (← e) (f ∙ rw m (held_certainty b (not (eqb u.over 0))))

  pub reply_said : {k : Certainty} {n : ℕ} → pair < u.pairs → k ≡ certain_of u pair → n ≡ reply_number k → record { number = 0; place = 0; reply = n } ≡ asked u pair
  reply_said h e f = ap (λ n. record { number = 0; place = 0; reply = n }) (f ∙ ap reply_number e) ∙ sym (asked_within u pair h)

  pub question_refused : u.pairs ≤ pair → record { number = 21; place = pair; reply = 0 } ≡ asked u pair
  question_refused h = sym (asked_beyond u pair h)
