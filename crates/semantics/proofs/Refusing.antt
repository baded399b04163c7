-- Laws of refusals in a row, of the tables that an operation writes, and of levels as bytes. Assumes nothing.
use Prim.Native.Nat.{ℕ, zero, suc, ◌+◌, ◌*◌, ◌/◌, ◌%◌, ◌≤◌, ◌<◌}
use native.Mathlib.Nat.{zero-add}
use native.Mathlib.Omega.{arith}
use mathlib.Core.Path.{◌≡◌, refl, sym, ap, ◌∙◌}
use mathlib.Core.Logic.{◌⊎◌, inl, inr, ⊎_elim, ◌↔◌}
use mathlib.Core.Bool.{Bool, true, false, false≢true}
use mathlib.Core.List.{List, [], ◌∷◌, ◌++◌, map}
use lib.ListN.{length, get_or, drop, get_or-append}
use lib.Seq.{ext_get_or}
use lib.Dec.{leb, ltb}
use borrow.Author.Tests.{ne_eqb, leb-true, le-leb, lt-ltb}
use Rattle.fixpoint.specs.Lists.{from, up_to, all}
use Rattle.fixpoint.proofs.Lists.{by_test, lt_cases, length_made, get_d_made}
use Rattle.semantics.specs.Values.{byte_says, said_number, is_value}
use Rattle.semantics.specs.Operations.{or_else, first_of, refuse_unless, refuse, too_short, counted, written, level_bytes, levels_in}
use Rattle.cases.specs.Faults.{Refusal, no_refusal}

-- ---- Refusals in a row: the whole refuses nothing exactly where no part refuses

pub zero_cases : (n : ℕ) → (n ≡ 0) ⊎ (n ≡ 0 → ⊥)
zero_cases zero = inl refl
zero_cases (suc n) = inr (λ e. omega arith)

pub or_else_next : (r q : Refusal) → r.number ≡ 0 → or_else r q ≡ q
unfolding or_else
or_else_next r q e = rw e

pub or_else_this : (r q : Refusal) → (r.number ≡ 0 → ⊥) → or_else r q ≡ r
unfolding or_else
or_else_this r q h = rw (ne_eqb r.number 0 h)

pub or_else_none : (r q : Refusal) {A B : Type 0} → ((r.number ≡ 0) ↔ A) → ((q.number ≡ 0) ↔ B) → ((or_else r q).number ≡ 0) ↔ (A × B)
or_else_none r q f g = (
  λ h. ⊎_elim (λ e. (f.0 e, g.0 (rw (or_else_next r q e) at h))) (λ n. absurd (n (rw (or_else_this r q n) at h))) (zero_cases r.number),
  λ p. rw (or_else_next r q (f.1 p.0)) (g.1 p.1),
)

pub or_else_assoc : (a b r : Refusal) → or_else (or_else a b) r ≡ or_else a (or_else b r)
or_else_assoc a b r =
    ⊎_elim
    (λ e. ap (λ q. or_else q r) (or_else_next a b e) ∙ sym (or_else_next a (or_else b r) e))
    (λ n. ap (λ q. or_else q r) (or_else_this a b n) ∙ or_else_this a r n ∙ sym (or_else_this a (or_else b r) n))
    (zero_cases a.number)

-- a number that the first part never gives is the second part's
pub or_else_later : (r q : Refusal) (n : ℕ) → (r.number ≡ n → ⊥) → (or_else r q).number ≡ n → or_else r q ≡ q
or_else_later r q n never h =
    ⊎_elim (or_else_next r q) (λ z. absurd (never (sym (ap (λ (r : Refusal). r.number) (or_else_this r q z)) ∙ h))) (zero_cases r.number)

pub unless_none : (ok : Bool) (n place : ℕ) → 0 < n → ((refuse_unless ok n place).number ≡ 0) ↔ (ok ≡ true)
unfolding refuse_unless
unless_none true n place pos = (λ e. refl, λ e. refl)
unless_none false n place pos = (λ e. absurd (omega arith), λ e. absurd (false≢true e))

pub unless_some : (ok : Bool) (n place : ℕ) → 0 < n → ((refuse_unless ok n place).number ≡ n) ↔ (ok ≡ false)
unfolding refuse_unless
unless_some true n place pos = (λ e. absurd (omega arith), λ e. absurd (false≢true (sym e)))
unless_some false n place pos = (λ e. refl, λ e. refl)

-- with no other number, and at place 0 where that is its place
pub unless_otherwise : (ok : Bool) (n place m : ℕ) → (m ≡ 0 → ⊥) → (m ≡ n → ⊥) → (refuse_unless ok n place).number ≡ m → ⊥
unfolding refuse_unless
unless_otherwise true n place m none other e = none (sym e)
unless_otherwise false n place m none other e = other (sym e)

pub unless_at : (ok : Bool) (n : ℕ) → (refuse_unless ok n 0).place ≡ 0
unfolding refuse_unless
unless_at true n = refl
unless_at false n = refl

-- a byte says a value exactly where it is at most 2
pub refuse_none : (v : List ℕ) (k : ℕ) → ((refuse (said_number (byte_says (get_or v k 0))) k).number ≡ 0) ↔ (is_value v k ≡ true)
unfolding refuse byte_says is_value
refuse_none v k =
    by_test (leb (get_or v k 0) 2)
    (λ e. rw e (λ h. refl, λ h. refl))
    (λ e. rw e (λ h. absurd (omega arith), λ h. absurd (false≢true h)))

-- the same, as tests find it
pub refuse_well : {n : ℕ} (place : ℕ) → n ≡ 0 → no_refusal ≡ refuse n place
unfolding refuse
refuse_well place e = rw e

pub refuse_ill : {n place : ℕ} → (n ≡ 0 → ⊥) → record { number = n; place = place } ≡ refuse n place
unfolding refuse
refuse_ill {n} h = rw (ne_eqb n 0 h)

pub unless_well : {ok : Bool} (n place : ℕ) → ok ≡ true → no_refusal ≡ refuse_unless ok n place
unfolding refuse_unless
unless_well n place e = rw e

pub unless_ill : {ok : Bool} {n place : ℕ} → ok ≡ false → record { number = n; place = place } ≡ refuse_unless ok n place
unfolding refuse_unless
unless_ill e = rw e

unless_small : (ok : Bool) (n place : ℕ) → (refuse_unless ok n place).number ≤ n
unfolding refuse_unless
unless_small true n place = omega arith
unless_small false n place = omega arith

pub unless_place : (ok : Bool) (n place : ℕ) → ((refuse_unless ok n place).number ≡ 0 → ⊥) → (ok ≡ false) × ((refuse_unless ok n place).place ≡ place)
unfolding refuse_unless
unless_place true n place h = absurd (h refl)
unless_place false n place h = (refl, refl)

pub short_none : (n needed : ℕ) (table : List ℕ) → 0 < n → ((too_short n needed table).number ≡ 0) ↔ (needed ≤ length table)
unfolding too_short
short_none n needed table pos =
    let r = unless_none (leb needed (length table)) n needed pos in
    (λ e. leb-true needed (length table) (r.0 e), λ h. r.1 (le-leb needed (length table) h))

pub short_small : (n needed : ℕ) (table : List ℕ) → (too_short n needed table).number ≤ n
unfolding too_short
short_small n needed table = unless_small (leb needed (length table)) n needed

-- nothing is refused from i on and below m
abbrev pub WellBetween : ℕ → ℕ → (ℕ → Refusal) → Type 0
WellBetween i m f = (k : ℕ) → i ≤ k → k < m → (f k).number ≡ 0

well_from : (i m : ℕ) (f : ℕ → Refusal) → (f i).number ≡ 0 → WellBetween (suc i) m f → WellBetween i m f
well_from i m f e h k lo hi =
    ⊎_elim (λ b. h k b hi) (λ b. let q : k ≡ i = omega arith in rw q e) (lt_cases i k)

-- r is the first refusal from i on and below m
pub record FirstBetween (i m : ℕ) (f : ℕ → Refusal) (r : Refusal) : Type 0 where
  pub k : ℕ
  pub from_start : i ≤ k
  pub below : k < m
  pub is : r ≡ f k
  pub refuses : (f k).number ≡ 0 → ⊥
  pub earlier : WellBetween i k f

-- either all are well, or there is a first that refuses and decides
first_cases : (i n : ℕ) (f : ℕ → Refusal) → (((first_of (from i n) f).number ≡ 0) × WellBetween i (i + n) f) ⊎ FirstBetween i (i + n) f (first_of (from i n) f)
unfolding first_of from
first_cases i zero f = inl (refl, λ k lo hi. absurd (omega arith))
first_cases i (suc n) f =
    let m : suc i + n ≡ i + suc n = omega arith in
    ⊎_elim
    (λ e. rw (or_else_next (f i) (first_of (from (suc i) n) f) e, ← m)
    (⊎_elim
    (λ p. inl (p.0, well_from i (suc i + n) f e p.1))
    (λ r. inr (record { k = r.k; from_start = omega arith; below = r.below; is = r.is; refuses = r.refuses; earlier = well_from i r.k f e r.earlier }))
    (first_cases (suc i) n f)))
    (λ h. inr (record { k = i; from_start = omega arith; below = omega arith; is = or_else_this (f i) (first_of (from (suc i) n) f) h; refuses = h; earlier = λ j lo hi. absurd (omega arith) }))
    (zero_cases (f i).number)

module _ (n : ℕ) (f : ℕ → Refusal) where
  pub first_none : {A : ℕ → Type 0} → ((k : ℕ) → k < n → ((f k).number ≡ 0) ↔ A k) → ((first_of (up_to n) f).number ≡ 0) ↔ ((k : ℕ) → k < n → A k)
  unfolding up_to
  first_none g =
      ⊎_elim
      (λ p. (λ e k h. (g k h).0 (p.1 k (omega arith) (omega arith)), λ h. p.0))
      (λ r. let b : r.k < n = omega arith in (λ e. absurd (r.refuses (rw r.is at e)), λ h. absurd (r.refuses ((g r.k b).1 (h r.k b)))))
      (first_cases 0 n f)

  pub first_refuses : ((first_of (up_to n) f).number ≡ 0 → ⊥) → FirstBetween 0 n f (first_of (up_to n) f)
  unfolding up_to
  first_refuses h = ⊎_elim (λ p. absurd (h p.0)) (λ r. rw zero-add at r) (first_cases 0 n f)

-- ---- The first refusal, looked for from 0 on: nothing is refused below i, and then there is a refusal, or the end

pub record Well (f : ℕ → Refusal) (i : ℕ) : Type 0 where
  pub each : (k : ℕ) → k < i → (f k).number ≡ 0

module _ {f : ℕ → Refusal} where
  pub well_none : Well f 0
  well_none = record { each = λ k h. absurd (omega arith) }

  pub well_more : {i : ℕ} {r : Refusal} → r ≡ f i → r.number ≡ 0 → Well f i → Well f (i + 1)
  well_more {i} e z well = record {
    each = λ k h. ⊎_elim (λ b. well.each k b) (λ b. let q : k ≡ i = omega arith in rw (q, ← e) z) (lt_cases k i);
  }

  pub well_first : {i n : ℕ} {r : Refusal} → r ≡ f i → i < n → (r.number ≡ 0 → ⊥) → Well f i → r ≡ first_of (up_to n) f
  unfolding up_to from first_of
  well_first {i} {n} e h some well = e ∙ sym (from_on 0 n (omega arith) (omega arith))
    where
      from_on : (j m : ℕ) → j ≤ i → i < j + m → first_of (from j m) f ≡ f i
      from_on j zero lo hi = absurd (omega arith)
      from_on j (suc m) lo hi =
          ⊎_elim
          (λ b. or_else_next (f j) (first_of (from (suc j) m) f) (well.each j b) ∙ from_on (suc j) m b (omega arith))
          (λ b. let q : j ≡ i = omega arith in rw q (or_else_this (f i) (first_of (from (suc i) m) f) (λ z. some (rw e z))))
          (lt_cases j i)

  pub well_all : {i n : ℕ} → n ≤ i → Well f i → no_refusal ≡ first_of (up_to n) f
  unfolding up_to from first_of
  well_all {i} {n} h well = sym (from_on 0 n (omega arith))
    where
      from_on : (j m : ℕ) → j + m ≤ i → first_of (from j m) f ≡ no_refusal
      from_on j zero hi = refl
      from_on j (suc m) hi = or_else_next (f j) (first_of (from (suc j) m) f) (well.each j (omega arith)) ∙ from_on (suc j) m (omega arith)

  pub well_of : {n : ℕ} → (first_of (up_to n) f).number ≡ 0 → Well f n
  well_of {n} e = record { each = (first_none n f (λ k h. (λ z. z, λ z. z))).0 e }

-- ---- Tables

pub counted_unrefused : (r : Refusal) (n : ℕ) → r.number ≡ 0 → counted r n ≡ n
unfolding counted
counted_unrefused r n e = rw e

pub written_none : (r : Refusal) (entries table : List ℕ) → r.number ≡ 0 → written r entries table ≡ entries ++ drop (length entries) table
unfolding written
written_none r entries table e = rw e

pub written_at : (r : Refusal) (entries table : List ℕ) → r.number ≡ 0 → (k : ℕ) → k < length entries → get_or (written r entries table) k 0 ≡ get_or entries k 0
written_at r entries table e k h = rw (written_none r entries table e) (get_or-append entries _ 0 k h)

pub written_refused : (r : Refusal) (entries table : List ℕ) → (r.number ≡ 0 → ⊥) → written r entries table ≡ table
unfolding written
written_refused r entries table h = rw (ne_eqb r.number 0 h)

-- ---- Levels as bytes

pub length_level_bytes : (l : List ℕ) → length (level_bytes l) ≡ 2 * length l
unfolding level_bytes
length_level_bytes [] = refl
length_level_bytes (x ∷ l) = omega (arith, length_level_bytes l)

level_of_bytes : (l rest : List ℕ) (k : ℕ) → k < length l → get_or (level_bytes l ++ rest) (2 * k) 0 + 256 * get_or (level_bytes l ++ rest) (2 * k + 1) 0 ≡ get_or l k 0
unfolding level_bytes
level_of_bytes [] rest k h = absurd (omega arith)
level_of_bytes (x ∷ l) rest zero h = omega arith
level_of_bytes (x ∷ l) rest (suc k) h =
    let a : 2 * suc k ≡ suc (suc (2 * k)) = omega arith in
    let b : suc (suc (2 * k)) + 1 ≡ suc (suc (2 * k + 1)) = omega arith in
    rw (a, b) (level_of_bytes l rest k (omega arith))

-- the levels that were written as bytes are read back
pub levels_read_back : (l rest : List ℕ) (n : ℕ) → length l ≡ n → levels_in n (level_bytes l ++ rest) ≡ l
unfolding levels_in
levels_read_back l rest n e =
    let level : ℕ → ℕ = λ k. get_or (level_bytes l ++ rest) (2 * k) 0 + 256 * get_or (level_bytes l ++ rest) (2 * k + 1) 0 in
    let same = length_made level n in
    ext_get_or 0 (map level (up_to n)) l (same ∙ sym e) (λ k h. get_d_made level n k 0 (omega arith) ∙ level_of_bytes l rest k (omega arith))

pub level_bytes_bytes : (l : List ℕ) → ((k : ℕ) → get_or l k 0 < 65536) → all (level_bytes l) (λ b. ltb b 256) ≡ true
unfolding level_bytes all
level_bytes_bytes [] h = refl
level_bytes_bytes (x ∷ l) h =
    let small : x < 65536 = h 0 in
    rw (lt-ltb (x % 256) 256 (omega arith), lt-ltb (x / 256) 256 (omega arith)) (level_bytes_bytes l (λ k. h (suc k)))
