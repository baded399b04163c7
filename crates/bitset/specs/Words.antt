-- Bits of words, membership in the rows of a table of w words a row, and what the functions on rows leave. Assumes nothing.
use Rattle.std.specs.Prelude.{ℕ, ◌+◌, ◌-◌, ◌*◌, ◌/◌, ◌%◌, ◌^◌, ◌<◌, ◌≤◌, ◌≡◌, Bool, true, false, cond, not, ◌&&◌, ◌||◌, List, length, get_or, Option, Some, None, eqb, ltb}
use Rattle.fixpoint.specs.Entries.{Put}

-- bit j of a word
unfoldable pub bit : ℕ → ℕ → Bool
bit x j = eqb (x / 2 ^ j % 2) 1

-- b is in row r of a table of w words a row
unfoldable pub member : List ℕ → ℕ → ℕ → ℕ → Bool
member t w r b = bit (get_or t (r * w + b / 64) 0) (b % 64)

-- the table has row r
pub record HasRow (t : List ℕ) (w r : ℕ) : Type 0 where
  pub fits : r * w + w ≤ length t

-- the numbers that word i of a row has are below n
pub record WordBelow (n i word : ℕ) : Type 0 where
  pub below : (j : ℕ) → j < 64 → bit word j ≡ true → 64 * i + j < n

-- a word with bit j set
pub record WithBit (x j y : ℕ) : Type 0 where
  pub bits : (i : ℕ) → i < 64 → bit y i ≡ (eqb i j || bit x i)

-- a word with bit j set if `there`
pub record WithBitIf (x j : ℕ) (there : Bool) (y : ℕ) : Type 0 where
  pub bits : (i : ℕ) → i < 64 → bit y i ≡ ((eqb i j && there) || bit x i)

-- a word with bit j as `there` says
pub record BitAssigned (x j : ℕ) (there : Bool) (y : ℕ) : Type 0 where
  pub bits : (i : ℕ) → i < 64 → bit y i ≡ cond (eqb i j) there (bit x i)

-- the bits of x outside y; fewer where y has one of them
pub record Without (x y z : ℕ) : Type 0 where
  pub bits : (i : ℕ) → i < 64 → bit z i ≡ (bit x i && not (bit y i))
  pub less : (i : ℕ) → i < 64 → bit x i ≡ true → bit y i ≡ true → z < x

-- a word without bit j; less if it had it
pub record WithoutBit (x j y : ℕ) : Type 0 where
  pub bits : (i : ℕ) → i < 64 → bit y i ≡ (bit x i && not (eqb i j))
  pub less : bit x j ≡ true → y < x

-- a bit of a word; that it is the lowest doesn't matter
pub record Lowest (x j : ℕ) : Type 0 where
  pub below : j < 64
  pub there : bit x j ≡ true

-- a bit of a word, and the word without it
pub record TakenBit (x j y : ℕ) : Type 0 where
  pub lowest : Lowest x j
  pub without : WithoutBit x j y

-- a bit is taken from a word, or none is left
abbrev pub BitTaken : ℕ → Option ℕ → ℕ → Type 0
BitTaken x None y = x ≡ 0
BitTaken x (Some j) y = TakenBit x j y

-- the bits of x below n
pub record BitsBelow (x n y : ℕ) : Type 0 where
  pub bits : (i : ℕ) → i < 64 → bit y i ≡ (bit x i && ltb i n)

-- all bits below n
pub record FirstBits (n x : ℕ) : Type 0 where
  pub bits : (i : ℕ) → i < 64 → bit x i ≡ ltb i n

-- b was put into row r; every other member is as it was
pub record Inserted (t : List ℕ) (w r b : ℕ) (t' : List ℕ) : Type 0 where
  pub members : (q m : ℕ) → m < 64 * w → member t' w q m ≡ ((eqb q r && eqb m b) || member t w q m)
  pub long : length t' ≡ length t

-- whether b is in row r is as `there` says; every other member is as it was
pub record Assigned (t : List ℕ) (w r b : ℕ) (there : Bool) (t' : List ℕ) : Type 0 where
  pub members : (q m : ℕ) → m < 64 * w → member t' w q m ≡ cond (eqb q r && eqb m b) there (member t w q m)
  pub long : length t' ≡ length t

-- row from was added to row into; every other row is as it was
pub record Joined (t : List ℕ) (w into from : ℕ) (t' : List ℕ) : Type 0 where
  pub members : (q m : ℕ) → m < 64 * w → member t' w q m ≡ ((eqb q into && member t w from m) || member t w q m)
  pub long : length t' ≡ length t

-- every row was emptied
pub record Cleared (t t' : List ℕ) : Type 0 where
  pub members : (w r b : ℕ) → member t' w r b ≡ false
  pub long : length t' ≡ length t

-- row r has the numbers that pass a test, every other row is kept
pub record RowMade (test : ℕ → Bool) (w r : ℕ) (t t' : List ℕ) : Type 0 where
  pub row : (a : ℕ) → a < 64 * w → member t' w r a ≡ test a
  pub others : (q a : ℕ) → (q ≡ r → ⊥) → a < 64 * w → member t' w q a ≡ member t w q a
  pub long : length t' ≡ length t

-- so have the rows of a set
pub record RowsMade (test : ℕ → ℕ → Bool) (w set : ℕ) (t t' : List ℕ) : Type 0 where
  pub rows : (r a : ℕ) → r < 64 → a < 64 * w → member t' w r a ≡ cond (bit set r) (test r a) (member t w r a)
  pub long : length t' ≡ length t

-- n words from `at` on are those of u from `from` on
pub record WordsCopied (u : List ℕ) (from at n : ℕ) (t t' : List ℕ) : Type 0 where
  pub put : Put (λ k. get_or u (from + (k - at)) 0) at (at + n) t t'

-- row s is row r of u, or has that too
pub record RowCopied (u : List ℕ) (w r s : ℕ) (t t' : List ℕ) : Type 0 where
  pub made : RowMade (member u w r) w s t t'

pub record RowAdded (u : List ℕ) (w r s : ℕ) (t t' : List ℕ) : Type 0 where
  pub made : RowMade (λ a. member t w s a || member u w r a) w s t t'
