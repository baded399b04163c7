-- Membership in rows, word by word: a word stored, rows joined, rows compared, common members counted, over any number of words. Assumes nothing.
use Prim.Native.Nat.{ℕ, zero, suc, ◌+◌, ◌*◌, ◌/◌, ◌%◌, ◌^◌, ◌≤◌, ◌<◌}
use native.Mathlib.Nat.{add-zero, add-suc, mul-le-mul_right, suc-mul, le_trans, le_of_eq, lt_of_le_of_lt}
use native.Mathlib.Omega.{arith}
use mathlib.Core.Path.{◌≡◌, refl, sym, ap, ap₂, ◌∙◌}
use mathlib.Core.Logic.{◌⊎◌, inl, inr, ⊎_elim}
use mathlib.Core.Bool.{Bool, true, false, cond, not, ◌&&◌, ◌||◌, beq, and-eq-true_iff, or_comm}
use mathlib.Core.List.{List, [], ◌∷◌}
use lib.ListN.{length, get_or, set, replicate, length-set, get_or-eq_default}
use Rattle.std.proofs.lemmas.List.{length-replicate, get_or-replicate}
use lib.Seq.{get_or-set_same, get_or-set_other}
use lib.Arith.{digits_div, digits_mod}
use lib.Bits.{bit_and, bit_or, and_le_l}
use lib.Count.{ones}
use lib.Dec.{eqb}
use borrow.Author.Tests.{eqb-true, eqb-false, eq-eqb, ne_eqb}
use borrow.Author.Count.{below_more}
use Rattle.fixpoint.specs.Lists.{from, up_to, all, count}
use Rattle.fixpoint.proofs.Lists.{length_up_to, up_to_snoc, count_append, count_le_length, all_up_to_in, all_up_to_of, bool_cases, bool_ext, lt_cases}
use Rattle.bitset.specs.Words.{bit, member, HasRow, BitAssigned, Inserted, Assigned, Joined, Cleared}
use Rattle.bitset.proofs.Bits.{cond_true, bit_and_lem, bit_or_lem, bit_zero, word_ext, ones_count}

-- Bools and tests
pub eqb_same : (a b c d : ℕ) → (a ≡ b → c ≡ d) → (c ≡ d → a ≡ b) → eqb a b ≡ eqb c d
eqb_same a b c d f g =
    bool_ext (eqb a b) (eqb c d) (λ h. eq-eqb c d (f (eqb-true a b h))) (λ h. eq-eqb a b (g (eqb-true c d h)))

within : (a b : Bool) → a && b ≡ a → not a || b ≡ true
within true b e = e
within false b e = refl

within_and : (a b : Bool) → not a || b ≡ true → a && b ≡ a
within_and true b e = e
within_and false b e = refl

fails : (b : Bool) → (b ≡ true → ⊥) → b ≡ false
fails b n = ⊎_elim (λ e. absurd (n e)) (λ e. e) (bool_cases b)

pub beq_same : (a b : Bool) → a ≡ b → beq a b ≡ true
beq_same true true e = refl
beq_same true false e = sym e
beq_same false true e = e
beq_same false false e = refl

pub beq_true : (a b : Bool) → beq a b ≡ true → a ≡ b
beq_true true true e = refl
beq_true true false e = sym e
beq_true false true e = e
beq_true false false e = refl

-- Where the words of rows lie: words of rows at one place are the same word of the same row
module _ (w q r a b : ℕ) (h : a < w) (l : b < w) (e : q * w + a ≡ r * w + b) where
  pub place_row : q ≡ r
  place_row = sym (digits_div q h) ∙ ap (λ n. n / w) e ∙ digits_div r l

  pub place_word : a ≡ b
  place_word = sym (digits_mod q h) ∙ ap (λ n. n % w) e ∙ digits_mod r l

pub rows_apart : (w q r : ℕ) → q < r → q * w + w ≤ r * w
rows_apart w q r h = le_trans (le_of_eq (sym (suc-mul q w))) (mul-le-mul_right w h)

pub other_row : (w q r a : ℕ) → a < w → (q ≡ r → ⊥) → (q * w + a < r * w) ⊎ (r * w + w ≤ q * w + a)
other_row w q r a h n =
    ⊎_elim
    (λ l. inl (omega (arith, rows_apart w q r l)))
    (λ l. inr (omega (arith, rows_apart w r q (omega arith))))
    (lt_cases q r)

-- a table of the same length has the same rows
pub row_kept : {t t' : List ℕ} {w r : ℕ} → HasRow t w r → length t' ≡ length t → HasRow t' w r
row_kept f l = record { fits = omega (arith, f.fits) }

-- Members of a row as bits of its words
pub member_word : (t : List ℕ) (w r i j : ℕ) → j < 64 → member t w r (64 * i + j) ≡ bit (get_or t (r * w + i) 0) j
unfolding member
member_word t w r i j h =
    let e : (64 * i + j) / 64 ≡ i = omega arith in
    let f : (64 * i + j) % 64 ≡ j = omega arith in
    ap₂ (λ a b. bit (get_or t (r * w + a) 0) b) e f

-- A word with bit b % 64 as told, stored where b belongs
pub assigned : {t : List ℕ} {w r b y : ℕ} {there : Bool} → HasRow t w r → b < 64 * w
    → BitAssigned (get_or t (r * w + b / 64) 0) (b % 64) there y → Assigned t w r b there (set t (r * w + b / 64) y)
unfolding member
assigned {t} {w} {r} {b} {y} {there} f l g = record {
  members = λ q m h.
      ⊎_elim
      (λ e. let p = eqb-true (q * w + m / 64) (r * w + b / 64) e in
      let d = place_word w q r (m / 64) (b / 64) (omega arith) (omega arith) p in
      ap (λ n. bit (get_or (set t (r * w + b / 64) y) n 0) (m % 64)) p
      ∙ ap (λ x. bit x (m % 64)) (get_or-set_same t (r * w + b / 64) y 0 (omega arith))
      ∙ g.bits (m % 64) (omega arith)
      ∙ ap₂ (λ x n. cond x there (bit (get_or t n 0) (m % 64))) (eqb_same (m % 64) (b % 64) m b (λ k. omega arith) (λ k. omega arith)) (sym p)
      ∙ ap (λ x. cond (x && eqb m b) there (member t w q m)) (sym (eq-eqb q r (place_row w q r (m / 64) (b / 64) (omega arith) (omega arith) p))))
      (λ e. let n = eqb-false (q * w + m / 64) (r * w + b / 64) e in
      ap (λ x. bit x (m % 64)) (get_or-set_other t (r * w + b / 64) (q * w + m / 64) y 0 n)
      ∙ ap (λ x. cond x there (member t w q m))
      (sym (fails (eqb q r && eqb m b) (λ k.
      let both = (and-eq-true_iff (eqb q r) (eqb m b)).0 k in n (ap₂ (λ x z. x * w + z / 64) (eqb-true q r both.0) (eqb-true m b both.1))))))
      (bool_cases (eqb (q * w + m / 64) (r * w + b / 64)));
  long = length-set t (r * w + b / 64) y;
}

-- b was put into row r
pub inserted : {t t' : List ℕ} {w r b : ℕ} → Assigned t w r b true t' → Inserted t w r b t'
inserted {t} {t'} {w} {r} {b} v =
    record { members = λ q m h. v.members q m h ∙ cond_true (eqb q r && eqb m b) (member t w q m); long = v.long }

-- The first i words of row from were added to those of row into
pub record JoinedTo (t : List ℕ) (w into from i : ℕ) (t' : List ℕ) : Type 0 where
  pub most : i ≤ w
  pub done : (k : ℕ) → k < i → get_or t' (into * w + k) 0 ≡ bit_or (get_or t (into * w + k) 0) (get_or t (from * w + k) 0)
  pub kept : (p : ℕ) → (p < into * w) ⊎ (into * w + i ≤ p) → get_or t' p 0 ≡ get_or t p 0
  pub long : length t' ≡ length t

module _ {t : List ℕ} {w into from : ℕ} where
  module _ {t' : List ℕ} {i : ℕ} where
    pub joined_more : HasRow t w into → i < w → JoinedTo t w into from i t'
        → JoinedTo t w into from (i + 1) (set t' (into * w + i) (bit_or (get_or t' (into * w + i) 0) (get_or t' (from * w + i) 0)))
    joined_more f h v =
        let x = bit_or (get_or t' (into * w + i) 0) (get_or t' (from * w + i) 0) in
        let apart : (from * w + i < into * w) ⊎ (into * w + i ≤ from * w + i) =
        ⊎_elim (λ l. inl (omega (arith, rows_apart w from into l))) (λ l. inr (omega (arith, mul-le-mul_right w l))) (lt_cases from into) in
        record {
          most = omega arith;
          done = λ k l.
              ⊎_elim
              (λ b. get_or-set_other t' (into * w + i) (into * w + k) x 0 (omega arith) ∙ v.done k b)
              (λ b. let e : k ≡ i = omega arith in
              rw e (get_or-set_same t' (into * w + i) x 0 (omega (arith, v.long, f.fits)) ∙ ap₂ bit_or (v.kept (into * w + i) (inr (omega arith))) (v.kept (from * w + i) apart)))
              (lt_cases k i);
          kept = λ p l. ⊎_elim
              (λ b. get_or-set_other t' (into * w + i) p x 0 (omega arith) ∙ v.kept p (inl b))
              (λ b. get_or-set_other t' (into * w + i) p x 0 (omega arith) ∙ v.kept p (inr (omega arith)))
              l;
          long = length-set t' (into * w + i) x ∙ v.long;
        }

    pub joined_done : w ≤ i → JoinedTo t w into from i t' → Joined t w into from t'
    unfolding member
    joined_done above v = record {
      members = λ q m h.
          let others : (q ≡ into → ⊥) → (q * w + m / 64 < into * w) ⊎ (into * w + i ≤ q * w + m / 64)
          → member t' w q m ≡ ((eqb q into && member t w from m) || member t w q m) =
          λ n l. ap (λ x. bit x (m % 64)) (v.kept (q * w + m / 64) l) ∙ ap (λ x. (x && member t w from m) || member t w q m) (sym (ne_eqb q into n)) in
          ⊎_elim
          (λ l. others (omega arith) (inl (omega (arith, rows_apart w q into l))))
          (λ l. ⊎_elim
          (λ g. others (omega arith) (inr (omega (arith, rows_apart w into q g))))
          (λ g. let e : q ≡ into = omega arith in
          rw e
          (ap (λ x. bit x (m % 64)) (v.done (m / 64) (omega arith))
          ∙ bit_or_lem (get_or t (into * w + m / 64) 0) (get_or t (from * w + m / 64) 0) (m % 64)
          ∙ or_comm (member t w into m) (member t w from m)
          ∙ ap (λ x. (x && member t w from m) || member t w into m) (sym (eq-eqb into into refl))))
          (lt_cases into q))
          (lt_cases q into);
      long = v.long;
    }

get_or_zeros : (n i : ℕ) → get_or {A = ℕ} (replicate n 0) i 0 ≡ 0
get_or_zeros n i =
    let zeros : List ℕ = replicate n 0 in
    let long : length zeros ≡ n = length-replicate n 0 in
    ⊎_elim (λ l. get_or-replicate n i 0 0 l) (λ l. get_or-eq_default zeros 0 (omega arith)) (lt_cases i n)

-- a table of words that are 0 has no members
pub zeros_cleared : {t t' : List ℕ} → t' ≡ replicate (length t) 0 → Cleared t t'
unfolding member
zeros_cleared {t} {t'} h = record {
  members = λ w r b. ap (λ x. bit x (b % 64)) (ap (λ l. get_or l (r * w + b / 64) 0) h ∙ get_or_zeros (length t) (r * w + b / 64)) ∙ bit_zero (b % 64);
  long = ap length h ∙ length-replicate (length t) 0;
}

-- The first i of w words pass a test
pub record Passed (P : ℕ → Type 0) (w i : ℕ) : Type 0 where
  pub most : i ≤ w
  pub each : (k : ℕ) → k < i → P k

module _ {P : ℕ → Type 0} {w : ℕ} where
  pub passed_none : Passed P w 0
  passed_none = record { most = omega arith; each = λ k h. absurd (omega arith) }

  pub passed_more : {i : ℕ} → i < w → P i → Passed P w i → Passed P w (i + 1)
  passed_more {i} h p v = record { most = omega arith; each = below_more P i v.each p }

  pub passed_done : {i : ℕ} → w ≤ i → Passed P w i → (k : ℕ) → k < w → P k
  passed_done {i} h v k l = v.each k (omega arith)

-- HasRow r of t and row s of u, of w words
module _ (t : List ℕ) (r : ℕ) (u : List ℕ) (s w : ℕ) where
  -- the one is in the other if each word is in its word
  pub subset_of : ((k : ℕ) → k < w → bit_and (get_or t (r * w + k) 0) (get_or u (s * w + k) 0) ≡ get_or t (r * w + k) 0)
      → all (up_to (64 * w)) (λ b. not (member t w r b) || member u w s b) ≡ true
  unfolding member
  subset_of f =
      all_up_to_of (64 * w) (λ b. not (member t w r b) || member u w s b)
      (λ b h. within (member t w r b) (member u w s b)
      (sym (bit_and_lem (get_or t (r * w + b / 64) 0) (get_or u (s * w + b / 64) 0) (b % 64)) ∙ ap (λ x. bit x (b % 64)) (f (b / 64) (omega arith))))

  pub subset_in : all (up_to (64 * w)) (λ b. not (member t w r b) || member u w s b) ≡ true
      → (k : ℕ) → k < w → get_or t (r * w + k) 0 < 2 ^ 64 → bit_and (get_or t (r * w + k) 0) (get_or u (s * w + k) 0) ≡ get_or t (r * w + k) 0
  subset_in e k h l =
      let x = get_or t (r * w + k) 0 in
      let y = get_or u (s * w + k) 0 in
      word_ext 64 (bit_and x y) x (lt_of_le_of_lt (and_le_l x y) l) l
      (λ j g. bit_and_lem x y j ∙ within_and (bit x j) (bit y j)
      (rw (← member_word t w r k j g, ← member_word u w s k j g) (all_up_to_in (64 * w) (λ b. not (member t w r b) || member u w s b) e (64 * k + j) (omega arith))))

  pub subset_fails : (k : ℕ) → k < w → get_or t (r * w + k) 0 < 2 ^ 64 → (bit_and (get_or t (r * w + k) 0) (get_or u (s * w + k) 0) ≡ get_or t (r * w + k) 0 → ⊥)
      → all (up_to (64 * w)) (λ b. not (member t w r b) || member u w s b) ≡ false
  subset_fails k h l n =
      fails (all (up_to (64 * w)) (λ b. not (member t w r b) || member u w s b)) (λ e. n (subset_in e k h l))

  -- they are the same if each word is
  pub same_of : ((k : ℕ) → k < w → get_or t (r * w + k) 0 ≡ get_or u (s * w + k) 0)
      → all (up_to (64 * w)) (λ b. beq (member t w r b) (member u w s b)) ≡ true
  unfolding member
  same_of f =
      all_up_to_of (64 * w) (λ b. beq (member t w r b) (member u w s b))
      (λ b h. beq_same (member t w r b) (member u w s b) (ap (λ x. bit x (b % 64)) (f (b / 64) (omega arith))))

  pub same_in : all (up_to (64 * w)) (λ b. beq (member t w r b) (member u w s b)) ≡ true
      → (k : ℕ) → k < w → get_or t (r * w + k) 0 < 2 ^ 64 → get_or u (s * w + k) 0 < 2 ^ 64 → get_or t (r * w + k) 0 ≡ get_or u (s * w + k) 0
  same_in e k h l m =
      word_ext 64 (get_or t (r * w + k) 0) (get_or u (s * w + k) 0) l m
      (λ j g. beq_true (bit (get_or t (r * w + k) 0) j) (bit (get_or u (s * w + k) 0) j)
      (rw (← member_word t w r k j g, ← member_word u w s k j g) (all_up_to_in (64 * w) (λ b. beq (member t w r b) (member u w s b)) e (64 * k + j) (omega arith))))

  pub same_fails : (k : ℕ) → k < w → get_or t (r * w + k) 0 < 2 ^ 64 → get_or u (s * w + k) 0 < 2 ^ 64 → (get_or t (r * w + k) 0 ≡ get_or u (s * w + k) 0 → ⊥)
      → all (up_to (64 * w)) (λ b. beq (member t w r b) (member u w s b)) ≡ false
  same_fails k h l m n =
      fails (all (up_to (64 * w)) (λ b. beq (member t w r b) (member u w s b))) (λ e. n (same_in e k h l m))

-- The numbers of one word more that pass a test are the bits of a word that agrees with the test
pub count_word : (f : ℕ → Bool) (x n k : ℕ) → ((j : ℕ) → j < k → f (n + j) ≡ bit x j) → count (up_to (n + k)) f ≡ count (up_to n) f + count (up_to k) (bit x)
unfolding count up_to from
count_word f x n zero g = ap (λ m. count (up_to m) f) (add-zero n) ∙ omega arith
count_word f x n (suc k) g =
    ap (λ m. count (up_to m) f) (add-suc n k)
    ∙ ap (λ l. count l f) (up_to_snoc (n + k))
    ∙ count_append (up_to (n + k)) ((n + k) ∷ []) f
    ∙ ap₂ (λ a b. a + count (b ∷ []) (λ c. c)) (count_word f x n k (λ j h. g j (omega arith))) (g k (omega arith))
    ∙ omega arith
    ∙ ap (λ c. count (up_to n) f + c) (sym (ap (λ l. count l (bit x)) (up_to_snoc k) ∙ count_append (up_to k) (k ∷ []) (bit x)))

-- n is the count of the common members in the first i words of two rows
pub record CountedTo (t : List ℕ) (r : ℕ) (u : List ℕ) (s w i n : ℕ) : Type 0 where
  pub most : i ≤ w
  pub right : n ≡ count (up_to (64 * i)) (λ b. member t w r b && member u w s b)

module _ {t : List ℕ} {r : ℕ} {u : List ℕ} {s w : ℕ} where
  pub counted_none : CountedTo t r u s w 0 0
  unfolding count up_to from
  counted_none = record { most = omega arith; right = refl }

  pub counted_more : {i n : ℕ} → i < w → get_or t (r * w + i) 0 < 2 ^ 64 → CountedTo t r u s w i n
      → CountedTo t r u s w (i + 1) (n + ones (bit_and (get_or t (r * w + i) 0) (get_or u (s * w + i) 0)))
  counted_more {i} {n} h l v =
      let x = get_or t (r * w + i) 0 in
      let y = get_or u (s * w + i) 0 in
      let e : 64 * i + 64 ≡ 64 * (i + 1) = omega arith in
      let f : ℕ → Bool = λ b. member t w r b && member u w s b in
      record {
        most = omega arith;
        right =
            ap₂ (λ a b. a + b) v.right (ones_count 64 (bit_and x y) (lt_of_le_of_lt (and_le_l x y) l))
            ∙ sym (count_word f (bit_and x y) (64 * i) 64 (λ j g. ap₂ (λ a b. a && b) (member_word t w r i j g) (member_word u w s i j g) ∙ sym (bit_and_lem x y j)))
            ∙ ap (λ m. count (up_to m) f) e;
      }

  pub counted_most : {i n : ℕ} → CountedTo t r u s w i n → n ≤ 64 * i
  counted_most {i} {n} v =
      let f : ℕ → Bool = λ b. member t w r b && member u w s b in
      le_trans (le_of_eq v.right) (le_trans (count_le_length (up_to (64 * i)) f) (le_of_eq (length_up_to (64 * i))))

  -- so a count with one word more still fits
  pub counted_room : {i n : ℕ} → i < w → get_or t (r * w + i) 0 < 2 ^ 64 → CountedTo t r u s w i n
      → n + ones (bit_and (get_or t (r * w + i) 0) (get_or u (s * w + i) 0)) ≤ 64 * w
  counted_room {i} {n} h l v =
      le_trans (counted_most (counted_more h l v)) (omega arith)
