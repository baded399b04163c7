-- The numbers of reading's refusals. Assumes nothing.
use Prim.Native.Nat.{ℕ}
use mathlib.Core.Path.{◌≡◌, refl}
use mathlib.Core.Bool.{true}
use mathlib.Core.List.{List, [], ◌∷◌}
use lib.ListN.{length}
use lib.Dec.{eqb, ltb}
use Rattle.fixpoint.proofs.Lists.{by_test}
use Rattle.cases.specs.Reading.{Note, Progress, unknown_shape, after_end, refused, finish, walked, outcome, is_reading_number}
use Rattle.cases.proofs.Steps.{walked_keeps}

unknown_number : (shapes : ℕ) (l : List Note) → is_reading_number (unknown_shape shapes l).number ≡ true
unfolding unknown_shape
unknown_number shapes [] = refl
unknown_number shapes (r ∷ l) = by_test (ltb r.shape shapes) (λ e. rw e (unknown_number shapes l)) (λ e. rw e refl)

after_number : (s : List ℕ) (end : ℕ) (p : Progress) → is_reading_number (after_end s end p).number ≡ true
unfolding after_end
after_number s end p = by_test (ltb end (length s)) (λ e. rw e refl) (λ e. rw e (unknown_number (length p.written) p.named))

finish_number : (s : List ℕ) (end : ℕ) (p : Progress) → is_reading_number (finish s end p).refusal.number ≡ true
unfolding finish
finish_number s end p = by_test (eqb (after_end s end p).number 0) (λ e. rw e refl) (λ e. rw e (after_number s end p))

pub reading_number : (s : List ℕ) → is_reading_number (outcome s).refusal.number ≡ true
unfolding outcome walked refused
reading_number s =
    walked_keeps (λ p. Unit {0}) (λ w. is_reading_number w.refusal.number ≡ true) s
    (λ n at h. h) (λ end p k. finish_number s end p) (λ at p e taken h r k. k)
    (λ h. tt)
