-- Bits of words: of and, or, a difference and a power of two, above a word's length; a word is its bits, its ones are counted by them, and one
-- of them is its lowest. Assumes nothing.
use Prim.Native.Nat.{ℕ, zero, suc, ◌+◌, ◌-◌, ◌*◌, ◌/◌, ◌%◌, ◌^◌, ◌≤◌, ◌<◌}
use native.Mathlib.Nat.{one-mul, zero-div, div-one, div-eq_of_lt, div-lt_iff_lt-mul, div-div-eq-div-mul, mod-eq_of_lt, mod-lt, mod-one, mul-mod_left, pow-suc, pow-succ', lt_of_lt_of_le, zero-lt-suc}
use native.Mathlib.Numerals.{one-add}
use native.Mathlib.Omega.{arith}
use mathlib.Core.Path.{◌≡◌, refl, sym, ap, ap₂, ◌∙◌}
use mathlib.Core.Logic.{⊎_elim}
use mathlib.Core.Bool.{Bool, true, false, cond, not, ◌&&◌, ◌||◌, or_comm, or-false, and-true, false≢true}
use mathlib.Core.List.{[], ◌∷◌}
use lib.Dec.{eqb, ltb}
use lib.Bits.{bit_and, bit_or, bit_xor, and_shr, and_mod, and_mask, and_le_l, or_shr, or_mod, xor_shr, xor_mod}
use lib.Pow.{pow-lt, pow_mono, pow_pos, pow-add, shl-shr, mod-pow-add}
use lib.Count.{ones, ones_cat, count_trailing_zeros, under}
use borrow.Author.Tests.{eqb-true, eqb-false, eq-eqb, ne_eqb, ltb-true, lt-ltb, le-ltb}
use Rattle.fixpoint.specs.Lists.{from, up_to, count}
use Rattle.fixpoint.proofs.Lists.{up_to_snoc, count_append, bool_cases, bool_ext, lt_cases}
use Rattle.bitset.specs.Words.{bit, WithBit, WithBitIf, BitAssigned, Without, WithoutBit, Lowest, BitsBelow, FirstBits}

-- a binary digit is 0 or 1
digit_ind : (P : ℕ → Type 0) → P 0 → P 1 → (d : ℕ) → d < 2 → P d
digit_ind P p q zero h = p
digit_ind P p q (suc zero) h = q
digit_ind P p q (suc (suc d)) h = absurd (omega arith)

digit_cond : (d : ℕ) → d < 2 → d ≡ cond (eqb d 1) 1 0
digit_cond = digit_ind (λ d. d ≡ cond (eqb d 1) 1 0) refl refl

digit_ones : (d : ℕ) → d < 2 → ones d ≡ cond (eqb d 1) 1 0
unfolding ones
digit_ones = digit_ind (λ d. ones d ≡ cond (eqb d 1) 1 0) refl refl

digit_and : (d e : ℕ) → d < 2 → e < 2 → eqb (bit_and d e) 1 ≡ eqb d 1 && eqb e 1
digit_and d e h k =
    digit_ind
    (λ d. eqb (bit_and d e) 1 ≡ eqb d 1 && eqb e 1)
    refl
    (digit_ind (λ e. eqb (bit_and 1 e) 1 ≡ eqb e 1) refl refl e k)
    d
    h

digit_or : (d e : ℕ) → d < 2 → e < 2 → eqb (bit_or d e) 1 ≡ eqb d 1 || eqb e 1
digit_or d e h k =
    digit_ind
    (λ d. eqb (bit_or d e) 1 ≡ eqb d 1 || eqb e 1)
    refl
    (digit_ind (λ e. eqb (bit_or 1 e) 1 ≡ true) refl refl e k)
    d
    h

digit_without : (d e : ℕ) → d < 2 → e < 2 → eqb (bit_and d (bit_xor d e)) 1 ≡ eqb d 1 && not (eqb e 1)
digit_without d e h k =
    digit_ind
    (λ d. eqb (bit_and d (bit_xor d e)) 1 ≡ eqb d 1 && not (eqb e 1))
    refl
    (digit_ind (λ e. eqb (bit_and 1 (bit_xor 1 e)) 1 ≡ not (eqb e 1)) refl refl e k)
    d
    h

-- The bits of and, or, a difference, 0 and a power of two, and those at or above a word's length
module _ (a b j : ℕ) where
  pub bit_and_lem : bit (bit_and a b) j ≡ bit a j && bit b j
  unfolding bit
  bit_and_lem =
      ap (λ x. eqb x 1) (ap (λ x. x % 2) (and_shr a b j) ∙ and_mod (a / 2 ^ j) (b / 2 ^ j) 1)
      ∙ digit_and (a / 2 ^ j % 2) (b / 2 ^ j % 2) (omega arith) (omega arith)

  pub bit_or_lem : bit (bit_or a b) j ≡ bit a j || bit b j
  unfolding bit
  bit_or_lem =
      ap (λ x. eqb x 1) (ap (λ x. x % 2) (or_shr a b j) ∙ or_mod (a / 2 ^ j) (b / 2 ^ j) 1)
      ∙ digit_or (a / 2 ^ j % 2) (b / 2 ^ j % 2) (omega arith) (omega arith)

  pub bit_without : bit (bit_and a (bit_xor a b)) j ≡ bit a j && not (bit b j)
  unfolding bit
  bit_without =
      ap (λ x. eqb x 1)
      (ap (λ x. x % 2) (and_shr a (bit_xor a b) j)
      ∙ and_mod (a / 2 ^ j) (bit_xor a b / 2 ^ j) 1
      ∙ ap (λ x. bit_and (a / 2 ^ j % 2) x) (ap (λ x. x % 2) (xor_shr a b j) ∙ xor_mod (a / 2 ^ j) (b / 2 ^ j) 1))
      ∙ digit_without (a / 2 ^ j % 2) (b / 2 ^ j % 2) (omega arith) (omega arith)

pub bit_zero : (j : ℕ) → bit 0 j ≡ false
unfolding bit
bit_zero j = ap (λ x. eqb (x % 2) 1) (zero-div (2 ^ j))

pub bit_high : (k x j : ℕ) → x < 2 ^ k → k ≤ j → bit x j ≡ false
unfolding bit
bit_high k x j h l = ap (λ x. eqb (x % 2) 1) (div-eq_of_lt (lt_of_lt_of_le h (pow_mono l)))

-- 2 ^ (i + suc m) shifted down by i is even
pow_even : (i m : ℕ) → bit (2 ^ (suc m + i)) i ≡ false
unfolding bit
pow_even i m =
    ap (λ x. eqb (x / 2 ^ i % 2) 1) (pow-add 2 (suc m) i)
    ∙ ap (λ x. eqb (x % 2) 1) (shl-shr (2 ^ suc m) i)
    ∙ ap (λ x. eqb x 1) (ap (λ x. x % 2) (pow-suc 2 m) ∙ mul-mod_left (2 ^ m) 2)

pow_same : (i : ℕ) → bit (2 ^ i) i ≡ true
unfolding bit
pow_same i = ap (λ x. eqb (x / 2 ^ i % 2) 1) (sym (one-mul (2 ^ i))) ∙ ap (λ x. eqb (x % 2) 1) (shl-shr 1 i)

pub bit_pow : (j i : ℕ) → bit (2 ^ j) i ≡ eqb i j
bit_pow j i =
    ⊎_elim
    (λ h. ap (λ n. bit (2 ^ n) i) (omega arith) ∙ pow_even i (j - suc i) ∙ sym (ne_eqb i j (omega arith)))
    (λ h. ⊎_elim
    (λ l. bit_high (suc j) (2 ^ j) i (pow-lt (omega arith)) l ∙ sym (ne_eqb i j (omega arith)))
    (λ l. let e : i ≡ j = omega arith in rw e (pow_same j ∙ sym (eq-eqb j j refl)))
    (lt_cases j i))
    (lt_cases i j)

-- a power of two, as the code shifts it
pub shifted : (j : ℕ) → j < 64 → 1 * 2 ^ j % 2 ^ 64 ≡ 2 ^ j
shifted j h = ap (λ y. y % 2 ^ 64) (one-mul (2 ^ j)) ∙ mod-eq_of_lt (pow-lt h)

-- a word with one bit set, as the code sets it
pub bit_set : (x j : ℕ) → j < 64 → WithBit x j (bit_or x (1 * 2 ^ j % 2 ^ 64))
bit_set x j h = record {
  bits = λ i l.
      ap (λ y. bit (bit_or x y) i) (shifted j h)
      ∙ bit_or_lem x (2 ^ j) i
      ∙ ap (λ b. bit x i || b) (bit_pow j i)
      ∙ or_comm (bit x i) (eqb i j);
}

pub bit_set_if : {x j y : ℕ} → WithBit x j y → WithBitIf x j true y
bit_set_if {x} {j} u = record { bits = λ i l. u.bits i l ∙ ap (λ b. b || bit x i) (sym (and-true (eqb i j))) }

-- A bit set or left out
pub cond_true : (x m : Bool) → cond x true m ≡ (x || m)
cond_true true m = refl
cond_true false m = refl

pub bit_put : {x j y : ℕ} {there : Bool} → there ≡ true → WithBit x j y → BitAssigned x j there y
bit_put {x} {j} e u = rw e (record { bits = λ i l. u.bits i l ∙ sym (cond_true (eqb i j) (bit x i)) })

-- Bits set one by one: those below s are as f says
pub below_next : (q s : ℕ) → (q ≡ s → ⊥) → ltb q s ≡ ltb q (s + 1)
below_next q s n =
    bool_ext (ltb q s) (ltb q (s + 1))
    (λ b. lt-ltb q (s + 1) (omega (arith, ltb-true q s b)))
    (λ b. lt-ltb q s (omega (arith, ltb-true q (s + 1) b)))

module _ (f : ℕ → Bool) where
  pub set_more : {s x y : ℕ} → ((q : ℕ) → q < 64 → bit x q ≡ (ltb q s && f q)) → WithBitIf x s (f s) y → (q : ℕ) → q < 64 → bit y q ≡ (ltb q (s + 1) && f q)
  set_more {s} u v q h =
      v.bits q h
      ∙ ap (λ b. (eqb q s && f s) || b) (u q h)
      ∙ ⊎_elim
      (λ e. rw (eqb-true q s e, eq-eqb s s refl, le-ltb s s (omega arith), lt-ltb s (s + 1) (omega arith)) (or-false (f s)))
      (λ e. rw e (ap (λ b. b && f q) (below_next q s (eqb-false q s e))))
      (bool_cases (eqb q s))

-- One digit more of a number
low_suc : (k x : ℕ) → x % 2 ^ suc k ≡ x / 2 ^ k % 2 * 2 ^ k + x % 2 ^ k
low_suc k x = ap (λ n. x % 2 ^ n) (sym (one-add k)) ∙ mod-pow-add x 1 k

bit_digit : (x j : ℕ) → x / 2 ^ j % 2 ≡ cond (bit x j) 1 0
unfolding bit
bit_digit x j = digit_cond (x / 2 ^ j % 2) (omega arith)

-- Numbers with equal bits are equal, below 2 ^ k and modulo 2 ^ k
pub low_ext : (k x y : ℕ) → ((j : ℕ) → j < k → bit x j ≡ bit y j) → x % 2 ^ k ≡ y % 2 ^ k
low_ext zero x y f = omega arith
low_ext (suc k) x y f =
    low_suc k x
    ∙ ap₂ (λ d r. d * 2 ^ k + r)
    (bit_digit x k ∙ ap (λ b. cond b 1 0) (f k (omega arith)) ∙ sym (bit_digit y k))
    (low_ext k x y (λ j h. f j (omega arith)))
    ∙ sym (low_suc k y)

pub word_ext : (k x y : ℕ) → x < 2 ^ k → y < 2 ^ k → ((j : ℕ) → j < k → bit x j ≡ bit y j) → x ≡ y
word_ext k x y h l f = sym (mod-eq_of_lt h) ∙ low_ext k x y f ∙ mod-eq_of_lt l

-- The ones of a number are its set bits
low_ones : (k x : ℕ) → ones (x % 2 ^ k) ≡ count (up_to k) (bit x)
unfolding count bit up_to from
low_ones zero x = ap ones (mod-one x) ∙ digit_ones 0 (omega arith)
low_ones (suc k) x =
    ap ones (low_suc k x)
    ∙ ones_cat k (x / 2 ^ k % 2) (x % 2 ^ k) (mod-lt x (pow_pos k))
    ∙ omega (arith, digit_ones (x / 2 ^ k % 2) (omega arith), low_ones k x)
    ∙ sym (ap (λ l. count l (bit x)) (up_to_snoc k) ∙ count_append (up_to k) (k ∷ []) (bit x))

pub ones_count : (k x : ℕ) → x < 2 ^ k → ones x ≡ count (up_to k) (bit x)
ones_count k x h = ap ones (sym (mod-eq_of_lt h)) ∙ low_ones k x

-- The bits of one word outside another, as the code takes them
pub bits_without : (x y : ℕ) → Without x y (bit_and x (bit_xor x y))
bits_without x y =
    let z = bit_and x (bit_xor x y) in
    record {
      bits = λ i h. bit_without x y i;
      less = λ i h here there.
          ⊎_elim
          (λ l. l)
          (λ l. let same : z ≡ x = omega (arith, and_le_l x (bit_xor x y)) in
          absurd (false≢true (sym (bit_without x y i ∙ ap₂ (λ a b. a && not b) here there) ∙ ap (λ n. bit n i) same ∙ here)))
          (lt_cases z x);
    }

pub bit_left_out : {x j one y : ℕ} → j < 64 → WithBit 0 j one → Without x one y → WithoutBit x j y
bit_left_out {x} {j} {one} l is_one out =
    let only : (i : ℕ) → i < 64 → bit one i ≡ eqb i j = λ i h. is_one.bits i h ∙ ap (λ b. eqb i j || b) (bit_zero i) ∙ or-false (eqb i j) in
    record {
      bits = λ i h. out.bits i h ∙ ap (λ b. bit x i && not b) (only i h);
      less = λ e. out.less j l e (only j l ∙ eq-eqb j j refl);
    }

-- The lowest bit
tz_bit : (k n : ℕ) → 0 < n → n < 2 ^ k → (count_trailing_zeros k n < k) × (bit n (count_trailing_zeros k n) ≡ true)
unfolding count_trailing_zeros bit
tz_bit zero n h l = absurd (omega arith)
tz_bit (suc k) n h l =
    go (n % 2) refl (λ e. tz_bit k (n / 2) (omega arith) ((div-lt_iff_lt-mul (zero-lt-suc 1)).1 (rw (pow-suc 2 k) at l)))
  where
    go : (d : ℕ) → n % 2 ≡ d → (n % 2 ≡ 0 → (count_trailing_zeros k (n / 2) < k) × (bit (n / 2) (count_trailing_zeros k (n / 2)) ≡ true))
        → (under d (count_trailing_zeros k (n / 2)) < suc k) × (bit n (under d (count_trailing_zeros k (n / 2))) ≡ true)
    go zero e f =
        let t = count_trailing_zeros k (n / 2) in
        (omega (arith, (f e).0), ap (λ x. eqb (x % 2) 1) (ap (λ x. n / x) (pow-succ' 2 t) ∙ sym (div-div-eq-div-mul n 2 (2 ^ t))) ∙ (f e).1)
    go (suc d) e f =
        let odd : n % 2 ≡ 1 = omega arith in
        (omega arith, ap (λ x. eqb (x % 2) 1) (div-one n) ∙ ap (λ x. eqb x 1) odd)

pub lowest : (x : ℕ) → 0 < x → x < 2 ^ 64 → Lowest x (count_trailing_zeros 64 x)
lowest x h l = let t = tz_bit 64 x h l in record { below = t.0; there = t.1 }

-- The bits below n
pub bit_ones : (n j : ℕ) → bit (2 ^ n - 1) j ≡ ltb j n
bit_ones n j =
    sym (bit_and_lem (2 ^ j) (2 ^ n - 1) j ∙ ap (λ b. b && bit (2 ^ n - 1) j) (pow_same j))
    ∙ ap (λ x. bit x j) (and_mask (2 ^ j) n)
    ∙ ⊎_elim
    (λ h. ap (λ x. bit x j) (mod-eq_of_lt (pow-lt h)) ∙ pow_same j ∙ sym (lt-ltb j n h))
    (λ h. bit_high n (2 ^ j % 2 ^ n) j (mod-lt (2 ^ j) (pow_pos n)) h ∙ sym (le-ltb j n h))
    (lt_cases j n)

pub first_bits : (n : ℕ) → n < 64 → FirstBits n (1 * 2 ^ n % 2 ^ 64 - 1)
first_bits n h = record { bits = λ i l. ap (λ x. bit (x - 1) i) (shifted n h) ∙ bit_ones n i }

pub below_first : {x n y : ℕ} → FirstBits n y → BitsBelow x n (bit_and x y)
below_first {x} {n} {y} f = record { bits = λ i l. bit_and_lem x y i ∙ ap (λ b. bit x i && b) (f.bits i l) }

pub below_all : {x n : ℕ} → 64 ≤ n → BitsBelow x n x
below_all {x} {n} h = record { bits = λ i l. sym (and-true (bit x i)) ∙ ap (λ b. bit x i && b) (sym (lt-ltb i n (omega arith))) }

-- ---- The bits in which two words differ

digit_xor : (d e : ℕ) → d < 2 → e < 2 → eqb (bit_xor d e) 1 ≡ cond (eqb e 1) (not (eqb d 1)) (eqb d 1)
digit_xor zero zero h l = refl
digit_xor zero (suc zero) h l = refl
digit_xor zero (suc (suc e)) h l = absurd (omega arith)
digit_xor (suc zero) zero h l = refl
digit_xor (suc zero) (suc zero) h l = refl
digit_xor (suc zero) (suc (suc e)) h l = absurd (omega arith)
digit_xor (suc (suc d)) e h l = absurd (omega arith)

pub bit_xor_lem : (a b j : ℕ) → bit (bit_xor a b) j ≡ cond (bit b j) (not (bit a j)) (bit a j)
unfolding bit
bit_xor_lem a b j =
    ap (λ x. eqb x 1) (ap (λ x. x % 2) (xor_shr a b j) ∙ xor_mod (a / 2 ^ j) (b / 2 ^ j) 1)
    ∙ digit_xor (a / 2 ^ j % 2) (b / 2 ^ j % 2) (omega arith) (omega arith)
