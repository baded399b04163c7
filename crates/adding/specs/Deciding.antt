-- What a verdict under a selection asks of its tables, and what it gives and leaves. Assumes nothing.
use Rattle.std.specs.Prelude.{ℕ, ◌+◌, ◌≤◌, ◌<◌, ◌≡◌, Bool, ◌&&◌, List, length, eqb}
use Rattle.cases.specs.Case.{Case}
use Rattle.cases.specs.Counts.{words_of}
use Rattle.cases.specs.Rows.{case_in}
use Rattle.cases.specs.declared.command.Target.{Target}
use Rattle.cases.specs.declared.counts.Counts.{Counts}
use Rattle.fillers.specs.Converse.{ConverseHeld}
use Rattle.kernel.specs.Rows.{links_in, sets_in, Prepared}
use Rattle.lookups.specs.Edges.{set_words}
use Rattle.references.specs.Referring.{Linked}
use Rattle.semantics.specs.Adding.{chosen, chosen_count, with_links, key_size, key_selection}
use Rattle.settling.specs.Settled.{solved_at}
use Rattle.adding.specs.declared.asked.Asked.{Asked}
use Rattle.adding.specs.Choosing.{Behind}

-- the case without candidates, and with the chosen ones
abbrev pub case_asked : Asked → Case
case_asked asked = case_in asked.counts asked.slice.now

abbrev pub case_selected : Asked → ℕ → Case
case_selected asked selection = with_links (case_asked asked) (chosen asked.list.now selection)

-- the tables have what no candidate touches
pub record Tabled (asked : Asked) (rows tables : List ℕ) : Type 0 where
  pub behind : Behind asked.slice.now rows
  pub room : 769 + set_words asked.counts ≤ length tables
  pub linked : Linked asked.counts asked.slice.now (links_in tables)
  pub held : ConverseHeld (case_asked asked) (words_of asked.counts) asked.held (sets_in tables)

-- they are prepared for the case with the chosen edges, which the rows hold
pub record PreparedWith (asked : Asked) (selection : ℕ) (r : Counts) (rows' tables' : List ℕ) : Type 0 where
  pub case : case_in r rows' ≡ case_selected asked selection
  pub prepared : Prepared r rows' tables'
  pub shape_there : asked.pair.shape.0 < r.shapes
  pub node_there : asked.pair.node.0 < r.nodes
  pub tabled : Tabled asked rows' tables'

-- the solved value of the pair in the case with the chosen edges
pub record Decided (asked : Asked) (selection value : ℕ) (rows' tables' : List ℕ) : Type 0 where
  pub is : value ≡ solved_at (case_selected asked selection) asked.pair
  pub tabled : Tabled asked rows' tables'

-- the key's selection has so many edges and makes the pair valid
unfoldable pub sure_over : Case → Target → List ℕ → ℕ → Bool
sure_over c pair list key =
    eqb (chosen_count list (key_selection list key)) (key_size list key) && eqb (solved_at (with_links c (chosen list (key_selection list key))) pair) 2

pub record KeyAsked (asked : Asked) (key : ℕ) (sure : Bool) (rows' tables' : List ℕ) : Type 0 where
  pub is : sure ≡ sure_over (case_asked asked) asked.pair asked.list.now key
  pub tabled : Tabled asked rows' tables'
