-- Levels by pair, and the nodes of a row or of a word at which a level is low. Assumes nothing.
use Rattle.std.specs.Prelude.{ℕ, ◌+◌, ◌*◌, ◌<◌, ◌≤◌, ◌≡◌, Bool, true, ◌&&◌, List, length, get_or, ltb}
use Rattle.bitset.specs.Words.{bit, member}
use Rattle.cases.specs.declared.counts.Size.{Size}

-- the level of pair k: two bytes, low first
unfoldable pub level_at : List ℕ → ℕ → ℕ
level_at levels k = get_or levels (2 * k) 0 + 256 * get_or levels (2 * k + 1) 0

-- the level of shape s at node a is below the bound
abbrev pub is_low : List ℕ → ℕ → Size → ℕ → ℕ → Bool
is_low levels bound size s a = ltb (level_at levels (s * size.nodes + a)) bound

-- the levels of shape s are there
pub record LevelRow (levels : List ℕ) (size : Size) (s : ℕ) : Type 0 where
  pub fits : 2 * (s * size.nodes + size.nodes) ≤ length levels

-- the numbers in a row are nodes
pub record RowBelow (sets : List ℕ) (row : ℕ) (size : Size) : Type 0 where
  pub each : (b : ℕ) → b < 64 * size.words → member sets size.words row b ≡ true → b < size.nodes

-- of the numbers in word i of a row, those that pass a test
pub record WordWhere (test : ℕ → Bool) (word i passing : ℕ) : Type 0 where
  pub bits : (j : ℕ) → j < 64 → bit passing j ≡ (bit word j && test (64 * i + j))
