-- What the search asks: a case, a pair of it, and candidates between its nodes; how many selections there are; and what is the same for each.
-- Assumes nothing.
use Rattle.std.specs.Prelude.{ℕ, ◌+◌, ◌^◌, ◌≤◌, ◌<◌, ◌≡◌, Bool, true, cond, List, length, ltb, Option, Some, None}
use Rattle.bitset.specs.Words.{bit}
use Rattle.cases.specs.Counts.{words_of}
use Rattle.cases.specs.Rows.{case_in, CaseIn}
use Rattle.cases.specs.declared.command.Target.{Target}
use Rattle.cases.specs.declared.counts.Counts.{Counts}
use Rattle.fillers.specs.Converse.{ConverseHeld}
use Rattle.fixpoint.specs.Lists.{first_from}
use Rattle.kernel.specs.Rows.{links_in, sets_in}
use Rattle.lookups.specs.Edges.{set_words}
use Rattle.references.specs.Referring.{Linked}
use Rattle.semantics.specs.Adding.{candidate_at, candidate_count, candidate_known, chosen, with_links}
use Rattle.semantics.specs.Paths.{fills}

-- the first number below n that passes the test, if one does
unfoldable pub first_sure_below : ℕ → (ℕ → Bool) → Option ℕ
first_sure_below n t = let k = first_from n 0 t in cond (ltb k n) (Some k) None

-- the selections of up to 12 candidates
pub record SelectionsOf (candidates n : ℕ) : Type 0 where
  pub is : n ≡ 2 ^ candidates
  pub some : 1 ≤ n
  pub most : n ≤ 4096

pub record Searchable (counts : Counts) (pair : Target) (slice list : List ℕ) : Type 0 where
  pub case_in_holds : CaseIn counts slice
  pub few_edges : counts.edges ≤ 1024
  pub short : length list ≤ 60
  pub known : (i : ℕ) → i < candidate_count list → candidate_known (case_in counts slice) (candidate_at list i) ≡ true
  pub shape_known : pair.shape.0 < counts.shapes
  pub node_known : pair.node.0 < counts.nodes

-- the paths that are held have the same fillers with every selection
pub record SparedBy (counts : Counts) (slice list : List ℕ) (held : ℕ) : Type 0 where
  pub same : (selection p a b : ℕ) → p < counts.paths → bit held p ≡ true
      → fills (with_links (case_in counts slice) (chosen list selection)) p a b ≡ fills (case_in counts slice) p a b

-- a case, a pair of it and candidates, and paths to hold
pub record Question (counts : Counts) (slice : List ℕ) (pair : Target) (list : List ℕ) (held : ℕ) : Type 0 where
  pub searchable : Searchable counts pair slice list
  pub spared : SparedBy counts slice list held

-- the tables have who refers to whom and the sets of nodes of the paths that are held
pub record BaseLaid (counts : Counts) (slice list : List ℕ) (held : ℕ) (tables : List ℕ) : Type 0 where
  pub spared : SparedBy counts slice list held
  pub room : 769 + set_words counts ≤ length tables
  pub linked : Linked counts slice (links_in tables)
  pub right : ConverseHeld (case_in counts slice) (words_of counts) held (sets_in tables)
