-- Numbers by their binary digits: put into rows, how many there are, and compared with a bound from the highest down. Assumes nothing.
use Rattle.std.proofs.lemmas.Nat.{leading_length}
use Prim.Native.Nat.{ℕ, max, ◌+◌, ◌-◌, ◌*◌, ◌/◌, ◌%◌, ◌^◌, ◌≤◌, ◌<◌}
use native.Mathlib.Nat.{div-one, div-eq_of_lt}
use native.Mathlib.Omega.{arith}
use mathlib.Core.Path.{◌≡◌, sym, ap, ◌∙◌}
use mathlib.Core.Logic.{⊎_elim}
use mathlib.Core.Bool.{Bool, true, cond, not, ◌&&◌, ◌||◌, and-true, and-false, false≢true}
use mathlib.Core.List.{List}
use lib.ListN.{length, get_or}
use lib.Bits.{bit_and, bit_or}
use lib.Dec.{eqb, ltb}
use lib.Count.{count_leading_zeros}
use lib.Pow.{shr-shr, shr_mono, pow_mono}
use borrow.Author.Tests.{eqb-true, eqb-false, eq-eqb, ne_eqb, lt-ltb, le-ltb}
use Rattle.fixpoint.proofs.Lists.{by_test, lt_cases}
use Rattle.bitset.specs.Words.{bit, member, HasRow, Cleared, Without, Lowest}
use Rattle.bitset.proofs.Bits.{bit_zero, bit_and_lem, bit_or_lem, bit_high, bit_ones}
use Rattle.bitset.proofs.Members.{rows_apart, member_word}
use Rattle.cases.specs.declared.counts.Size.{Size}
use Rattle.justifying.specs.LevelRows.{level_at}
use Rattle.pairs.proofs.Raised.{one_more}
use Rattle.justifying.specs.Digits.{HasDigits, DigitsInserted, DigitsOf, LowerNext, SameNext, LowerIn}

-- ---- A number is put into the rows of the digits of x: it is in those outside `rest`

pub record InsertedBut (rest : ℕ) (t : List ℕ) (w a x : ℕ) (t' : List ℕ) : Type 0 where
  pub some : (k : ℕ) → k < 64 → bit rest k ≡ true → bit x k ≡ true
  pub members : (k b : ℕ) → k < 64 → b < 64 * w → member t' w k b ≡ ((eqb b a && (bit x k && not (bit rest k))) || member t w k b)
  pub long : length t' ≡ length t

-- a number below 2 ^ 16 has 16 digits
digit_below : (x k : ℕ) → x < 65536 → bit x k ≡ true → k < 16
digit_below x k h e =
    ⊎_elim (λ l. l) (λ l. absurd (false≢true (sym (bit_high 16 x k h l) ∙ e))) (lt_cases k 16)

module _ {t : List ℕ} {w a x : ℕ} where
  module _ {rest : ℕ} {t' : List ℕ} (v : InsertedBut rest t w a x t') where
    pub inserted_row : {k : ℕ} → Lowest rest k → x < 65536 → 16 * w ≤ length t → HasRow t' w k
    inserted_row {k} low h l = record {
      fits = omega (arith, rows_apart w k 16 (digit_below x k h (v.some k low.below low.there)), v.long);
    }

    pub inserted_done : rest ≡ 0 → DigitsInserted t w a x t'
    inserted_done e = record {
      members = λ k b h l. v.members k b h l ∙ rw (e, bit_zero k, and-true (bit x k));
      long = v.long;
    }

-- ---- How many digits

module _ {x : ℕ} (h : x < 65536) where
  length_of : (m : ℕ) × (count_leading_zeros 64 x + m ≡ 64) × (x < 2 ^ m) × (2 ^ m ≤ 2 * x + 1)
  length_of = leading_length 64 x (omega arith)

  pub digit_count_small : 64 - count_leading_zeros 64 x ≤ 16
  digit_count_small =
      let (m, e, l, o) = length_of in
      ⊎_elim (λ k. omega arith) (λ k. let p = pow_mono k in absurd (omega (arith, p, o))) (lt_cases m 17)

  pub digit_count_large : x / 2 ^ (64 - count_leading_zeros 64 x) ≡ 0
  digit_count_large =
      let (m, e, l, o) = length_of in
      let q : 64 - count_leading_zeros 64 x ≡ m = omega arith in
      rw q (div-eq_of_lt l)

-- ---- The levels of a shape: those of the nodes below a are there, none above `most`

pub record DigitsFilledTo (levels : List ℕ) (size : Size) (s : ℕ) (o t : List ℕ) (most a : ℕ) : Type 0 where
  pub nodes : a ≤ size.nodes
  pub members : (k b : ℕ) → k < 64 → b < size.nodes → member t size.words k b ≡ (ltb b a && bit (level_at levels (s * size.nodes + b)) k)
  pub greatest : (b : ℕ) → b < a → level_at levels (s * size.nodes + b) ≤ most
  pub small : most < 65536
  pub long : length t ≡ length o

module _ {levels : List ℕ} {size : Size} {s : ℕ} {o t : List ℕ} where
  module _ {most a : ℕ} (v : DigitsFilledTo levels size s o t most a) where
    pub digits_filled_more : {level most' : ℕ} {t' : List ℕ} → a < size.nodes → size.nodes ≤ 64 * size.words → level ≡ level_at levels (s * size.nodes + a) → level < 65536
        → DigitsInserted t size.words a level t' → most' ≡ max most level → DigitsFilledTo levels size s o t' most' (a + 1)
    digits_filled_more {level} h wide e small i m = record {
      nodes = omega arith;
      members = λ k b g o.
          i.members k b g (omega arith) ∙ rw (v.members k b g o, e) (one_more (λ b. bit (level_at levels (s * size.nodes + b)) k) b a);
      greatest = λ b g.
          ⊎_elim
          (λ o. omega (arith, v.greatest b o))
          (λ o. let q : b ≡ a = omega arith in omega (arith, ap (λ n. level_at levels (s * size.nodes + n)) q))
          (lt_cases b a);
      small = omega (arith, v.small);
      long = i.long ∙ v.long;
    }

    pub digits_filled_done : {u : List ℕ} {used : ℕ} → Cleared u o → 16 * size.words ≤ length u → size.nodes ≤ a → used ≤ 16 → most / 2 ^ used ≡ 0 → DigitsOf levels size s t used
    digits_filled_done {used = used} c l h few none = record {
      few = few;
      there = omega (arith, v.long, c.long);
      each = λ b m. record {
        digits = λ k g. v.members k b (omega arith) m ∙ rw (lt-ltb b a (omega arith));
        small = let m = shr_mono used (v.greatest b (omega arith)) in omega arith;
      };
    }

-- ---- One digit compared, where the bound has a 1 or not

pub lower_one : {lower same digit r : ℕ} {one : Bool} → one ≡ true → Without same digit r → LowerNext lower same digit one (bit_or lower r)
lower_one {lower} {r = r} e u = record { bits = λ j h. bit_or_lem lower r j ∙ rw (e, u.bits j h) }

pub same_one : {same digit : ℕ} {one : Bool} → one ≡ true → SameNext same digit one (bit_and same digit)
same_one {same} {digit} e = record { bits = λ j h. bit_and_lem same digit j ∙ rw e }

-- two numbers, compared by their halves and then by their last digits
module _ (x y : ℕ) {one : Bool} (e : one ≡ eqb (y % 2) 1) where
  halves_lower : (ltb (x / 2) (y / 2) || (one && (eqb (x / 2) (y / 2) && not (eqb (x % 2) 1)))) ≡ ltb x y
  halves_lower =
      ⊎_elim
      (λ h. rw (lt-ltb (x / 2) (y / 2) h) (sym (lt-ltb x y (omega arith))))
      (λ h. rw (le-ltb (x / 2) (y / 2) h)
      (by_test (eqb (x / 2) (y / 2))
      (λ q. let same = eqb-true (x / 2) (y / 2) q in
      rw (q, e)
      (by_test (eqb (y % 2) 1)
      (λ f. let a = eqb-true (y % 2) 1 f in
      rw f
      (by_test (eqb (x % 2) 1)
      (λ g. let b = eqb-true (x % 2) 1 g in rw g (sym (le-ltb x y (omega arith))))
      (λ g. let b = eqb-false (x % 2) 1 g in rw g (sym (lt-ltb x y (omega arith))))))
      (λ f. let a = eqb-false (y % 2) 1 f in rw f (sym (le-ltb x y (omega arith))))))
      (λ q. let apart = eqb-false (x / 2) (y / 2) q in rw (q, and-false one) (sym (le-ltb x y (omega arith))))))
      (lt_cases (x / 2) (y / 2))

  halves_same : (eqb (x / 2) (y / 2) && cond one (eqb (x % 2) 1) (not (eqb (x % 2) 1))) ≡ eqb x y
  halves_same =
      by_test (eqb (x / 2) (y / 2))
      (λ q. let same = eqb-true (x / 2) (y / 2) q in
      rw (q, e)
      (by_test (eqb (y % 2) 1)
      (λ f. let a = eqb-true (y % 2) 1 f in
      rw f
      (by_test (eqb (x % 2) 1)
      (λ g. let b = eqb-true (x % 2) 1 g in rw g (sym (eq-eqb x y (omega arith))))
      (λ g. let b = eqb-false (x % 2) 1 g in rw g (sym (ne_eqb x y (omega arith))))))
      (λ f. let a = eqb-false (y % 2) 1 f in
      rw f
      (by_test (eqb (x % 2) 1)
      (λ g. let b = eqb-true (x % 2) 1 g in rw g (sym (ne_eqb x y (omega arith))))
      (λ g. let b = eqb-false (x % 2) 1 g in rw g (sym (eq-eqb x y (omega arith))))))))
      (λ q. let apart = eqb-false (x / 2) (y / 2) q in rw q (sym (ne_eqb x y (omega arith))))

-- a number without k digits is half of it without k - 1
half : (x k : ℕ) → 0 < k → x / 2 ^ k ≡ x / 2 ^ (k - 1) / 2
half x k h =
    let e : k - 1 + 1 ≡ k = omega arith in sym (shr-shr x (k - 1) 1 ∙ ap (λ n. x / 2 ^ n) e)

-- ---- Without their last k digits and the bound's, the numbers in `lower` are lower and those in `same` are the same

pub record ComparedTo (digits : List ℕ) (w used i bound k lower same : ℕ) : Type 0 where
  pub most : k ≤ used
  pub lowers : (j x : ℕ) → j < 64 → HasDigits digits w (64 * i + j) used x → bit lower j ≡ ltb (x / 2 ^ k) (bound / 2 ^ k)
  pub sames : (j x : ℕ) → j < 64 → HasDigits digits w (64 * i + j) used x → bit same j ≡ eqb (x / 2 ^ k) (bound / 2 ^ k)

all_bits : (j : ℕ) → j < 64 → bit (2 ^ 64 - 1) j ≡ true
all_bits j h = bit_ones 64 j ∙ lt-ltb j 64 h

module _ {digits : List ℕ} {w used i bound : ℕ} where
  pub compared_none : bound / 2 ^ used ≡ 0 → ComparedTo digits w used i bound used 0 (2 ^ 64 - 1)
  compared_none e = record {
    most = omega arith;
    lowers = λ j x h d. bit_zero j ∙ rw (e, d.small);
    sames = λ j x h d. all_bits j h ∙ rw (e, d.small);
  }

  -- a bound with a digit above those of the numbers
  pub compared_above : (bound / 2 ^ used ≡ 0 → ⊥) → LowerIn digits w used i bound (2 ^ 64 - 1)
  compared_above e = record {
    right = λ j x h d.
        all_bits j h
        ∙ sym (lt-ltb x bound (⊎_elim (λ l. l) (λ l. absurd (e (let m = shr_mono used l in omega (arith, d.small)))) (lt_cases x bound)));
  }

  module _ {k lower same : ℕ} (v : ComparedTo digits w used i bound k lower same) where
    pub compared_more : {one : Bool} {lower' same' : ℕ} → 0 < k → one ≡ eqb (bound / 2 ^ (k - 1) % 2) 1
        → LowerNext lower same (get_or digits ((k - 1) * w + i) 0) one lower' → SameNext same (get_or digits ((k - 1) * w + i) 0) one same'
        → ComparedTo digits w used i bound (k - 1) lower' same'
    unfolding bit
    compared_more {one} h e f g =
        let digit : (j x : ℕ) → j < 64 → HasDigits digits w (64 * i + j) used x → bit (get_or digits ((k - 1) * w + i) 0) j ≡ eqb (x / 2 ^ (k - 1) % 2) 1 =
        λ j x l d. sym (member_word digits w (k - 1) i j l) ∙ d.digits (k - 1) (omega (arith, v.most)) in
        record {
          most = omega (arith, v.most);
          lowers = λ j x l d.
              f.bits j l
              ∙ rw (v.lowers j x l d, v.sames j x l d, digit j x l d, half x k h, half bound k h) (halves_lower (x / 2 ^ (k - 1)) (bound / 2 ^ (k - 1)) e);
          sames = λ j x l d.
              g.bits j l
              ∙ rw (v.sames j x l d, digit j x l d, half x k h, half bound k h) (halves_same (x / 2 ^ (k - 1)) (bound / 2 ^ (k - 1)) e);
        }

    pub compared_done : k ≤ 0 → LowerIn digits w used i bound lower
    compared_done h = let e : k ≡ 0 = omega arith in record {
      right = λ j x h d. v.lowers j x h d ∙ rw (e, div-one x, div-one bound);
    }
