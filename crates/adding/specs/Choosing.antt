-- The chosen candidates in rows, and the rows of the case with them. Assumes nothing.
use Rattle.std.specs.Prelude.{ℕ, ◌+◌, ◌≤◌, ◌<◌, ◌≡◌, List, map, length}
use Rattle.cases.specs.Rows.{row_in, edge_in, case_in, Full}
use Rattle.cases.specs.declared.command.Edge.{Edge}
use Rattle.cases.specs.declared.counts.Counts.{Counts}
use Rattle.fixpoint.specs.Lists.{up_to, keep}
use Rattle.semantics.specs.Adding.{candidate_at, candidate_count, chooses, chosen, unparked, with_links}

-- the first so many edges in the rows
abbrev pub first_edges : List ℕ → ℕ → List Edge
first_edges rows n = map (edge_in rows) (up_to n)

-- n rows hold the chosen ones of the candidates below a bound
pub record ChosenTo (list : List ℕ) (selection bound n : ℕ) (rows : List ℕ) : Type 0 where
  pub edges : first_edges rows n ≡ map (candidate_at list) (keep (up_to bound) (chooses selection))
  pub few : n ≤ bound
  pub most : bound ≤ candidate_count list
  pub room : 48 ≤ length rows

-- behind the rows of edges, two tables have the same rows
pub record Behind (slice rows : List ℕ) : Type 0 where
  pub others : (i : ℕ) → 1036 ≤ i → i < 1340 → row_in rows i ≡ row_in slice i
  pub full : Full rows

-- the rows begin with the edges of the case, in which each chosen one is laid
pub record EdgesLaid (bound : ℕ) (slice : List ℕ) (n : ℕ) (picked rows : List ℕ) : Type 0 where
  pub edges : (i : ℕ) → i < bound → edge_in rows i ≡ unparked (first_edges picked n) (edge_in slice i)
  pub behind : Behind slice rows

-- the rows hold the case with the chosen edges
pub record RowsWith (counts : Counts) (slice list : List ℕ) (selection : ℕ) (r : Counts) (rows : List ℕ) : Type 0 where
  pub case : case_in r rows ≡ with_links (case_in counts slice) (chosen list selection)
  pub nodes : r.nodes ≡ counts.nodes
  pub paths : r.paths ≡ counts.paths
  pub shapes : r.shapes ≡ counts.shapes
  pub targets : r.targets ≡ counts.targets
  pub few : r.edges ≤ counts.edges + 12
  pub behind : Behind slice rows
