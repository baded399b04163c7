-- Numbers by their binary digits, in the rows of a table of words: row k has the nodes whose number has digit k. So the levels of a shape are
-- kept, and compared with a bound a word at a time. Assumes nothing.
use Rattle.std.specs.Prelude.{ℕ, ◌*◌, ◌/◌, ◌+◌, ◌^◌, ◌<◌, ◌≤◌, ◌≡◌, Bool, cond, not, ◌&&◌, ◌||◌, Option, Some, List, length, eqb, ltb}
use Rattle.bitset.specs.Words.{bit, member}
use Rattle.cases.specs.declared.counts.Size.{Size}
use Rattle.justifying.specs.LevelRows.{level_at}

-- the first n rows have the digits of x at a, and x has no others
pub record HasDigits (t : List ℕ) (w a n x : ℕ) : Type 0 where
  pub digits : (k : ℕ) → k < n → member t w k a ≡ bit x k
  pub small : x / 2 ^ n ≡ 0

-- a was put into the row of each digit of x
pub record DigitsInserted (t : List ℕ) (w a x : ℕ) (t' : List ℕ) : Type 0 where
  pub members : (k b : ℕ) → k < 64 → b < 64 * w → member t' w k b ≡ ((eqb b a && bit x k) || member t w k b)
  pub long : length t' ≡ length t

-- the first `used` rows have the levels of shape s
pub record DigitsOf (levels : List ℕ) (size : Size) (s : ℕ) (digits : List ℕ) (used : ℕ) : Type 0 where
  pub few : used ≤ 16
  pub there : 16 * size.words ≤ length digits
  pub each : (a : ℕ) → a < size.nodes → HasDigits digits size.words a used (level_at levels (s * size.nodes + a))

-- they do, if they are worked out
pub record DigitsUnless (levels : List ℕ) (size : Size) (s : ℕ) (digits : List ℕ) (used : Option ℕ) : Type 0 where
  pub right : (n : ℕ) → used ≡ Some n → DigitsOf levels size s digits n

-- the numbers of a word that are lower than the bound, by digits compared from the highest down: those that were lower, and those that were
-- the same and have a 0 where the bound has a 1
pub record LowerNext (lower same digit : ℕ) (one : Bool) (r : ℕ) : Type 0 where
  pub bits : (j : ℕ) → j < 64 → bit r j ≡ (bit lower j || (one && (bit same j && not (bit digit j))))

-- and those that are still the same
pub record SameNext (same digit : ℕ) (one : Bool) (r : ℕ) : Type 0 where
  pub bits : (j : ℕ) → j < 64 → bit r j ≡ (bit same j && cond one (bit digit j) (not (bit digit j)))

-- of word i, those whose number is lower than the bound
pub record LowerIn (digits : List ℕ) (w used i bound r : ℕ) : Type 0 where
  pub right : (j x : ℕ) → j < 64 → HasDigits digits w (64 * i + j) used x → bit r j ≡ ltb x bound
