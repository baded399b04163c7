-- The limits of a case's counts, by its profile, and the size of its sets of nodes. Document 01, "A case, command by command"; document 02,
-- point 8. Assumes nothing.
use Rattle.std.specs.Prelude.{ℕ, ◌*◌, ◌≤◌, Bool, cond, eqb, leb}
use Rattle.cases.specs.declared.counts.Counts.{Counts}
use Rattle.cases.specs.declared.counts.Size.{Size}

-- "profile 0 is 128 nodes and 32 shapes, 1 is 256 and 16, 2 is 512 and 8; the other limits stay"
abbrev pub is_profile : ℕ → Bool
is_profile profile = leb profile 2

unfoldable pub node_limit : ℕ → ℕ
node_limit profile = cond (eqb profile 0) 128 (cond (eqb profile 1) 256 512)

unfoldable pub shape_limit : ℕ → ℕ
shape_limit profile = cond (eqb profile 0) 32 (cond (eqb profile 1) 16 8)

abbrev pub edge_limit : ℕ
edge_limit = 1024

abbrev pub path_limit : ℕ
path_limit = 16

abbrev pub target_limit : ℕ
target_limit = 256

-- the words of 64 bits that a set of nodes takes: as many as the narrowest profile needs that lets in so many nodes
unfoldable pub words_of : Counts → ℕ
words_of counts = cond (leb counts.nodes 128) 2 (cond (leb counts.nodes 256) 4 8)

abbrev pub size_of : Counts → Size
size_of counts = record { nodes = counts.nodes; words = words_of counts }

-- what a set of nodes takes: it has a bit for each node, and the sets of all shapes take 64 words at most
pub record WordsFit (counts : Counts) : Type 0 where
  pub wide : counts.nodes ≤ 64 * words_of counts
  pub narrow : words_of counts ≤ 8
  pub pairs_fit : counts.shapes * words_of counts ≤ 64

-- what the tables of a case with these counts rely on: a set of nodes fits its words, a set of pairs 64 words, and the rows their table
pub record Fit (counts : Counts) : Type 0 where
  pub wide : counts.nodes ≤ 64 * words_of counts
  pub narrow : words_of counts ≤ 8
  pub pairs_fit : counts.shapes * words_of counts ≤ 64
  pub pairs_few : counts.shapes * counts.nodes ≤ 4096
  pub edges_fit : counts.edges ≤ 1036
  pub paths_fit : counts.paths ≤ 16
  pub shapes_fit : counts.shapes ≤ 32
  pub targets_fit : counts.targets ≤ 256
