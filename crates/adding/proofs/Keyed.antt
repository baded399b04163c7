-- Selections and keys: how many selections there are, and the first key. Assumes nothing.
use Prim.Native.Nat.{ℕ, ◌+◌, ◌*◌, ◌/◌, ◌%◌, ◌^◌, ◌≤◌, ◌<◌}
use native.Mathlib.Nat.{zero-add, mod-lt}
use native.Mathlib.Omega.{arith}
use mathlib.Core.Path.{◌≡◌, sym, ap, ◌∙◌}
use mathlib.Core.Logic.{⊎_elim}
use mathlib.Core.Bool.{Bool, true, false}
use mathlib.Core.List.{List}
use lib.Count.{ones}
use lib.ListN.{length}
use lib.Dec.{eqb, ltb}
use borrow.Author.Tests.{eq-eqb, ne_eqb, lt-ltb, le-ltb}
use lib.Pow.{pow_pos, pow_mono}
use Rattle.std.specs.Prelude.{Some, None}
use Rattle.bitset.specs.Words.{bit}
use Rattle.bitset.proofs.Bits.{shifted, ones_count}
use Rattle.fixpoint.specs.Lists.{first_from}
use Rattle.fixpoint.proofs.Lists.{by_test, lt_cases, first_from_is, first_from_none}
use Rattle.semantics.specs.Adding.{candidate_count, chooses, chosen_count, key_count, key_size, key_selection}
use Rattle.settling.specs.Settled.{solved_at}
use Rattle.adding.specs.declared.asked.Asked.{Asked}
use Rattle.adding.specs.Deciding.{case_asked, case_selected, Tabled, Decided, sure_over, KeyAsked}
use Rattle.adding.specs.Searching.{SelectionsOf, first_sure_below}

-- ---- How many selections

pub one_shifted : {candidates : ℕ} → candidates ≤ 12 → {r : ℕ} → r ≡ 1 * 2 ^ candidates % 18446744073709551616 → SelectionsOf candidates r
one_shifted {candidates} h e =
    let is = e ∙ shifted candidates (omega arith) in
    record { is = is; some = omega (arith, is, pow_pos candidates); most = omega (arith, is, pow_mono h) }

-- and how many keys there are
pub keys_asked : (list : List ℕ) {m n : ℕ} → m ≡ length list / 5 → SelectionsOf m n → (m + 1) * n ≡ key_count list
keys_asked list e v = rw (v.is, e)

-- ---- The first number that passes a test

module _ (n : ℕ) (t : ℕ → Bool) (key : ℕ) (none : (k : ℕ) → k < key → t k ≡ false) where
  first_found : key < n → t key ≡ true → Some key ≡ first_sure_below n t
  unfolding first_sure_below
  first_found h here = rw (first_from_is n 0 t key (omega arith) (omega arith) here (λ j a b. none j b), lt-ltb key n h)

  first_nowhere : n ≤ key → None ≡ first_sure_below n t
  unfolding first_sure_below
  first_nowhere h = rw (first_from_none n 0 t (λ j a b. none j (omega arith)), zero-add n, le-ltb n n (omega arith))

-- and what it is by the answer
module _ (n : ℕ) (t : ℕ → Bool) where
  pub none_below : None ≡ first_sure_below n t → ltb (first_from n 0 t) n ≡ false
  unfolding first_sure_below
  none_below e = by_test (ltb (first_from n 0 t) n) (λ y. let z = rw y at e in cc) (λ m. m)

  pub some_below : (x : ℕ) → Some x ≡ first_sure_below n t → (ltb (first_from n 0 t) n ≡ true) × (first_from n 0 t ≡ x)
  unfolding first_sure_below
  some_below x e = by_test (ltb (first_from n 0 t) n) (λ y. let z = rw y at e in (y, cc)) (λ m. let z = rw m at e in cc)

-- ---- The first key

-- no key below this one is it, and the tables are as they have to be
pub record SearchingTo (asked : Asked) (key : ℕ) (rows tables : List ℕ) : Type 0 where
  pub none : (k : ℕ) → k < key → sure_over (case_asked asked) asked.pair asked.list.now k ≡ false
  pub tabled : Tabled asked rows tables

module _ {asked : Asked} where
  module _ {key : ℕ} {rows tables : List ℕ} (v : SearchingTo asked key rows tables) where
    module _ {sure : Bool} {rows' tables' : List ℕ} (u : KeyAsked asked key sure rows' tables') where
      pub searching_more : sure ≡ false → SearchingTo asked (key + 1) rows' tables'
      searching_more f = record {
        none = λ k l. ⊎_elim (λ o. v.none k o) (λ o. let e : k ≡ key = omega arith in rw e (sym u.is ∙ f)) (lt_cases k key);
        tabled = u.tabled;
      }

      pub searching_found : {keys : ℕ} → keys ≡ key_count asked.list.now → key < keys → sure ≡ true
          → Some key ≡ first_sure_below (key_count asked.list.now) (sure_over (case_asked asked) asked.pair asked.list.now)
      searching_found e h y = first_found _ _ key v.none (rw e at h) (sym u.is ∙ y)

    pub searching_end : {keys : ℕ} → keys ≡ key_count asked.list.now → keys ≤ key
        → None ≡ first_sure_below (key_count asked.list.now) (sure_over (case_asked asked) asked.pair asked.list.now)
    searching_end e h = first_nowhere _ _ key v.none (rw e at h)

-- ---- One key

module _ (asked : Asked) (key : ℕ) {n : ℕ} (v : SelectionsOf (candidate_count asked.list.now) n) where
  size_is : ones (key % n) ≡ chosen_count asked.list.now (key_selection asked.list.now key)
  unfolding chosen_count chooses bit
  size_is =
      ap (λ x. ones (key % x)) v.is
      ∙ ones_count (candidate_count asked.list.now) _ (mod-lt key (pow_pos (candidate_count asked.list.now)))

  pub other_size : {rows tables : List ℕ} → (ones (key % n) ≡ key / n → ⊥) → Tabled asked rows tables → KeyAsked asked key false rows tables
  unfolding sure_over
  other_size d t = record {
    is = rw (ne_eqb (chosen_count asked.list.now (key_selection asked.list.now key)) (key_size asked.list.now key)
        (λ z. d (size_is ∙ z ∙ ap (λ x. key / x) (sym v.is))));
    tabled = t;
  }

  pub this_size : {value : ℕ} {rows tables : List ℕ} {sure : Bool} → ones (key % n) ≡ key / n → Decided asked (key % n) value rows tables → sure ≡ eqb value 2
      → KeyAsked asked key sure rows tables
  unfolding sure_over
  this_size s u e = record {
    is =
        e ∙ rw (eq-eqb (chosen_count asked.list.now (key_selection asked.list.now key)) (key_size asked.list.now key) (sym size_is ∙ s ∙ ap (λ x. key / x) v.is))
        (ap (λ x. eqb x 2) (u.is ∙ ap (λ x. solved_at (case_selected asked (key % x)) asked.pair) v.is));
    tabled = u.tabled;
  }
