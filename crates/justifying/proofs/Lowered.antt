-- The nodes of a word and of a row at which a level is low: sorted out one by one, tested and counted word by word. Assumes nothing.
use Prim.Native.Nat.{ℕ, ◌+◌, ◌-◌, ◌*◌, ◌^◌, ◌≤◌, ◌<◌}
use native.Mathlib.Omega.{arith}
use mathlib.Core.Path.{◌≡◌, refl, sym, ap, ap₂, ◌∙◌}
use mathlib.Core.Logic.{⊎_elim}
use mathlib.Core.Bool.{Bool, true, false, not, ◌&&◌, ◌||◌, and-true, and_assoc, and-not_self, and-eq-true_iff}
use mathlib.Core.List.{List}
use Rattle.std.specs.Prelude.{Option, Some}
use lib.ListN.{get_or}
use lib.Bits.{bit_and}
use lib.Count.{ones}
use mir.Syntax.{w64}
use mir.Val.{Fits}
use Rattle.fixpoint.specs.Lists.{up_to, from, all, count}
use Rattle.fixpoint.proofs.Lists.{bool_cases, lt_cases, all_up_to_of, all_up_to_in, count_le_length, length_up_to, by_test}
use Rattle.bitset.specs.Words.{bit, member, WordBelow}
use Rattle.bitset.proofs.Bits.{bit_zero, bit_and_lem, word_ext, ones_count}
use Rattle.bitset.proofs.Members.{member_word, count_word}
use Rattle.cases.specs.declared.counts.Size.{Size}
use Rattle.justifying.specs.Digits.{DigitsUnless, LowerIn}
use Rattle.justifying.specs.LevelRows.{level_at, is_low, RowBelow, WordWhere}

-- ---- The passing numbers of a word: those outside `rest` are sorted out

pub record SortedBut (rest : ℕ) (test : ℕ → Bool) (word i passing : ℕ) : Type 0 where
  pub some : (j : ℕ) → j < 64 → bit rest j ≡ true → bit word j ≡ true
  pub bits : (j : ℕ) → j < 64 → bit passing j ≡ ((bit word j && not (bit rest j)) && test (64 * i + j))

module _ {test : ℕ → Bool} {word i : ℕ} where
  pub sorted_none : SortedBut word test word i 0
  sorted_none = record {
    some = λ j h e. e;
    bits = λ j h. bit_zero j ∙ ap (λ z. z && test (64 * i + j)) (sym (and-not_self (bit word j)));
  }

  module _ {rest passing : ℕ} (v : SortedBut rest test word i passing) where
    pub sorted_done : rest ≡ 0 → WordWhere test word i passing
    sorted_done e = record {
      bits = λ j h. v.bits j h ∙ ap (λ z. z && test (64 * i + j)) (ap (λ z. bit word j && not z) (ap (λ z. bit z j) e ∙ bit_zero j) ∙ and-true (bit word j));
    }

-- ---- By digits, where they are worked out

module _ {levels : List ℕ} {size : Size} {s : ℕ} {digits : List ℕ} {o : Option ℕ} (d : DigitsUnless levels size s digits o) {used : ℕ} (y : o ≡ Some used) where
  pub lower_by_digits : {word i bound lower : ℕ} → WordBelow size.nodes i word → LowerIn digits size.words used i bound lower → WordWhere (is_low levels bound size s) word i (bit_and word lower)
  lower_by_digits {word} {i} {bound} {lower} nodes u = record {
    bits = λ j h.
        bit_and_lem word lower j
        ∙ by_test (bit word j)
        (λ e. rw e (u.right j (level_at levels (s * size.nodes + (64 * i + j))) h ((d.right used y).each (64 * i + j) (nodes.below j h e))))
        (λ e. rw e);
  }

-- ---- The words of a row hold nodes

module _ {sets : List ℕ} {row : ℕ} {size : Size} (r : RowBelow sets row size) where
  pub asked_row : {i : ℕ} → i < size.words → WordBelow size.nodes i (get_or sets (row * size.words + i) 0)
  asked_row {i} h = record {
    below = λ j l e. r.each (64 * i + j) (omega arith) (member_word sets size.words row i j l ∙ e);
  }

  pub asked_common : {i : ℕ} (x : ℕ) → i < size.words → WordBelow size.nodes i (bit_and (get_or sets (row * size.words + i) 0) x)
  asked_common {i} x h = record {
    below = λ j l e. (asked_row h).below j l ((and-eq-true_iff _ (bit x j)).0 (sym (bit_and_lem (get_or sets (row * size.words + i) 0) x j) ∙ e)).0;
  }

-- ---- All numbers of a row pass: those in the first i words do

pub record PassedTo (test : ℕ → Bool) (sets : List ℕ) (row w i : ℕ) : Type 0 where
  pub most : i ≤ w
  pub each : (b : ℕ) → b < 64 * i → (not (member sets w row b) || test b) ≡ true

-- a number that is there passes exactly if it is kept
kept : (a b : Bool) → a && b ≡ a → not a || b ≡ true
kept true b e = e
kept false b e = refl

kept_if : (a b : Bool) → not a || b ≡ true → a && b ≡ a
kept_if true b e = e
kept_if false b e = refl

module _ {test : ℕ → Bool} {sets : List ℕ} {row w : ℕ} where
  module _ {i passing : ℕ} (v : PassedTo test sets row w i) (h : i < w) (u : WordWhere test (get_or sets (row * w + i) 0) i passing) where
    pub row_passed_more : passing ≡ get_or sets (row * w + i) 0 → PassedTo test sets row w (i + 1)
    row_passed_more e = record {
      most = omega arith;
      each = λ b l.
          ⊎_elim
          (v.each b)
          (λ m. let j : b ≡ 64 * i + (b - 64 * i) = omega arith in
          rw (j, member_word sets w row i (b - 64 * i) (omega arith))
          (kept _ _ (sym (u.bits (b - 64 * i) (omega arith)) ∙ ap (λ x. bit x (b - 64 * i)) e)))
          (lt_cases b (64 * i));
    }

    pub row_passed_not : passing < 2 ^ 64 → ((m : ℕ) → Fits w64 (get_or sets m 0)) → (passing ≡ get_or sets (row * w + i) 0 → ⊥)
        → false ≡ all (up_to (64 * w)) (λ b. not (member sets w row b) || test b)
    row_passed_not small there n =
        ⊎_elim
        (λ e. absurd (n (word_ext 64 passing (get_or sets (row * w + i) 0) small (there (row * w + i)).fits (λ j l.
        u.bits j l ∙ kept_if _ _ (rw (member_word sets w row i j l) at (all_up_to_in (64 * w) (λ b. not (member sets w row b) || test b) e (64 * i + j) (omega arith)))))))
        sym
        (bool_cases (all (up_to (64 * w)) (λ b. not (member sets w row b) || test b)))

  pub row_passed_done : {i : ℕ} → w ≤ i → PassedTo test sets row w i → true ≡ all (up_to (64 * w)) (λ b. not (member sets w row b) || test b)
  row_passed_done h v = sym (all_up_to_of (64 * w) (λ b. not (member sets w row b) || test b) (λ b l. v.each b (omega arith)))

-- ---- The numbers of a row that are in row s of a set and pass: n of them are in the first i words

pub record PassingTo (test : ℕ → Bool) (sets : List ℕ) (row : ℕ) (set : List ℕ) (s w i n : ℕ) : Type 0 where
  pub most : i ≤ w
  pub right : n ≡ count (up_to (64 * i)) (λ b. member sets w row b && (member set w s b && test b))

module _ {test : ℕ → Bool} {sets : List ℕ} {row : ℕ} {set : List ℕ} {s w : ℕ} where
  pub passing_none : PassingTo test sets row set s w 0 0
  unfolding count up_to from
  passing_none = record { most = omega arith; right = refl }

  pub passing_more : {i n passing : ℕ} → i < w → WordWhere test (bit_and (get_or sets (row * w + i) 0) (get_or set (s * w + i) 0)) i passing → passing < 2 ^ 64
      → PassingTo test sets row set s w i n → PassingTo test sets row set s w (i + 1) (n + ones passing)
  passing_more {i} {n} {passing} h u small v =
      let e : 64 * i + 64 ≡ 64 * (i + 1) = omega arith in
      let f : ℕ → Bool = λ b. member sets w row b && (member set w s b && test b) in
      record {
        most = omega arith;
        right =
            ap₂ (λ a b. a + b) v.right (ones_count 64 passing small)
            ∙ sym (count_word f passing (64 * i) 64 (λ j l.
            rw (member_word sets w row i j l, member_word set w s i j l, u.bits j l, bit_and_lem (get_or sets (row * w + i) 0) (get_or set (s * w + i) 0) j)
            (sym (and_assoc (bit (get_or sets (row * w + i) 0) j) (bit (get_or set (s * w + i) 0) j) (test (64 * i + j))))))
            ∙ ap (λ m. count (up_to m) f) e;
      }

  -- they are no more than the numbers of the row
  passing_few : {i n : ℕ} → PassingTo test sets row set s w i n → n ≤ 64 * w
  passing_few {i} v =
      omega (arith, v.right, v.most, count_le_length (up_to (64 * i)) (λ b. member sets w row b && (member set w s b && test b)), length_up_to (64 * i))

  -- and so fit a word
  module _ {i n passing : ℕ} (narrow : 64 * w < 2 ^ 64) (h : i < w) (u : WordWhere test (bit_and (get_or sets (row * w + i) 0) (get_or set (s * w + i) 0)) i passing) (small : passing < 2 ^ 64)
      (v : PassingTo test sets row set s w i n) where
    pub passing_fits : Fits w64 (n + ones passing)
    passing_fits = record { fits = omega (arith, passing_few (passing_more h u small v)) }
