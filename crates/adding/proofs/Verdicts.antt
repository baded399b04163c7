-- The verdict under a selection: the rows hold a sound case, what is held is right in it too, and what is laid makes it prepared. Assumes nothing.
use Prim.Native.Nat.{ℕ, ◌+◌, ◌*◌, ◌≤◌, ◌<◌}
use native.Mathlib.Omega.{arith}
use mathlib.Core.Path.{◌≡◌, refl, sym, ap, ap₂, ◌∙◌}
use mathlib.Core.Bool.{true, ◌&&◌}
use mathlib.Core.List.{List}
use lib.ListN.{length}
use lib.Dec.{ltb}
use borrow.Author.Tests.{ltb-true}
use Rattle.bitset.specs.Words.{bit, member}
use Rattle.cases.specs.Case.{Case}
use Rattle.cases.specs.Counts.{words_of, Fit}
use Rattle.cases.specs.Format.{shape_rule_of}
use Rattle.cases.specs.Rows.{shape_in, case_in, CaseIn}
use Rattle.cases.specs.declared.counts.Counts.{Counts}
use Rattle.cases.proofs.InRows.{paths_in}
use Rattle.fillers.specs.Converse.{ConverseHeld}
use Rattle.fixpoint.proofs.Lists.{and_where}
use Rattle.kernel.specs.Rows.{links_in, sets_in, Prepared, SetsLaid, CountersLaid}
use Rattle.lookups.specs.Edges.{set_words}
use Rattle.references.specs.Referring.{Linked, refers_to}
use Rattle.semantics.specs.Adding.{chosen, with_links}
use Rattle.semantics.specs.Parking.{with_edges}
use Rattle.semantics.specs.Paths.{fills}
use Rattle.semantics.proofs.Adding.{sound_with, chosen_known}
use Rattle.adding.specs.declared.asked.Asked.{Asked}
use Rattle.adding.specs.Choosing.{RowsWith}
use Rattle.adding.specs.Searching.{Question}
use Rattle.adding.specs.Deciding.{case_asked, case_selected, Tabled, PreparedWith}

-- what is held of a case is held of another with the same fillers of these paths
held_alike : {c d : Case} {w held : ℕ} {sets : List ℕ} → c.nodes ≡ d.nodes → length c.paths ≡ length d.paths
    → ((p a b : ℕ) → p < length d.paths → bit held p ≡ true → fills c p a b ≡ fills d p a b) → ConverseHeld c w held sets → ConverseHeld d w held sets
held_alike {c} {d} {w} {sets = sets} n l f v = record {
  members = λ p a b h y g o.
      ap (λ m. member sets w (1 + p * m + b) a) (sym n) ∙ v.members p a b (rw l h) y (rw n g) o ∙ ap₂ (λ m x. ltb a m && x) n (f p a b h y);
}

module _ (asked : Asked) {selection : ℕ} {r : Counts} {rows' : List ℕ} (v : RowsWith asked.counts asked.slice.now asked.list.now selection r rows') where
  abbrev q : Question asked.counts asked.slice.now asked.pair asked.list.now asked.held
  q = asked.question

  words_same : words_of r ≡ words_of asked.counts
  unfolding words_of
  words_same = rw v.nodes

  set_words_same : set_words r ≡ set_words asked.counts
  set_words_same = ap₂ (λ x w. x * w) (ap₂ (λ p n. 1 + p * n) v.paths v.nodes) words_same

  fit_with : Fit r
  fit_with =
      let f = q.searchable.case_in_holds.fit in
      record {
        wide = rw (words_same, v.nodes) f.wide;
        narrow = rw words_same f.narrow;
        pairs_fit = rw (words_same, v.shapes) f.pairs_fit;
        pairs_few = rw (v.shapes, v.nodes) f.pairs_few;
        edges_fit = omega (arith, v.few, q.searchable.few_edges);
        paths_fit = rw v.paths f.paths_fit;
        shapes_fit = rw v.shapes f.shapes_fit;
        targets_fit = rw v.targets f.targets_fit;
      }

  pub selected_in : CaseIn r rows'
  selected_in = record {
    sound = rw v.case
        (sound_with (chosen asked.list.now selection) q.searchable.case_in_holds.sound (chosen_known (case_asked asked) asked.list.now selection q.searchable.known));
    fit = fit_with;
    full = v.behind.full;
  }

  nodes_with : (case_selected asked selection).nodes ≡ (case_asked asked).nodes
  unfolding with_links with_edges
  nodes_with = refl

  paths_with : (case_selected asked selection).paths ≡ (case_asked asked).paths
  unfolding with_links with_edges
  paths_with = refl

  paths_below : (p : ℕ) → p < length (case_asked asked).paths → p < asked.counts.paths
  paths_below p h = omega (arith, paths_in asked.counts asked.slice.now)

  held_with : (tables : List ℕ) → ConverseHeld (case_asked asked) (words_of asked.counts) asked.held (sets_in tables)
      → ConverseHeld (case_in r rows') (words_of r) asked.held (sets_in tables)
  held_with tables h =
      rw (v.case, words_same)
      (held_alike (sym nodes_with) (ap length (sym paths_with)) (λ p a b l y. sym (q.spared.same selection p a b (paths_below p (rw paths_with at l)) y)) h)

  held_back : (tables : List ℕ) → ConverseHeld (case_in r rows') (words_of r) asked.held (sets_in tables)
      → ConverseHeld (case_asked asked) (words_of asked.counts) asked.held (sets_in tables)
  held_back tables h =
      held_alike nodes_with (ap length paths_with) (λ p a b l y. q.spared.same selection p a b (paths_below p l) y) (rw (v.case, words_same) at h)

  -- who refers to whom is the same
  shape_with : (s : ℕ) → s < asked.counts.shapes → shape_in rows' s ≡ shape_in asked.slice.now s
  unfolding shape_in
  shape_with s h = ap shape_rule_of (v.behind.others (1052 + s) (omega arith) (omega (arith, q.searchable.case_in_holds.fit.shapes_fit)))

  links_with : {links : List ℕ} → Linked asked.counts asked.slice.now links → Linked r rows' links
  links_with k = record {
    few = rw v.shapes k.few;
    room = k.room;
    bits = λ n t s a b l.
        k.bits n t s a b l
        ∙ rw v.shapes (and_where (ltb s asked.counts.shapes) (λ y. ap (refers_to n t) (sym (shape_with s (ltb-true s asked.counts.shapes y)))));
  }

  module _ {rows tables : List ℕ} (t : Tabled asked rows tables) where
    pub room_with : 769 + set_words r ≤ length tables
    room_with = omega (arith, set_words_same, t.room)

    pub held_there : ConverseHeld (case_in r rows') (words_of r) asked.held (sets_in tables)
    held_there = held_with tables t.held

    module _ {made : ℕ} {tables' : List ℕ} (u : SetsLaid r rows' asked.held tables made tables') where
      pub laid_long : 769 ≤ length tables'
      laid_long = omega (arith, u.long, t.room)

      module _ {tables'' : List ℕ} (w : CountersLaid r rows' tables' tables'') where
        links_there : links_in tables'' ≡ links_in tables
        links_there = w.links_kept ∙ u.links_kept

        prepared_with : Prepared r rows' tables''
        prepared_with = record {
          case_tables = rw w.sets_kept u.case_tables;
          linked = rw links_there (links_with t.linked);
          fresh = w.fresh;
          room = omega (arith, laid_long, w.long);
        }

        tabled_with : Tabled asked rows' tables''
        tabled_with = record {
          behind = v.behind;
          room = omega (arith, t.room, u.long, w.long);
          linked = rw links_there t.linked;
          held = rw w.sets_kept (held_back tables' (record { members = λ p a b h y. u.held.members p a b h (u.more p (few_paths p h) y) }));
        }
          where
            few_paths : (p : ℕ) → p < length (case_in r rows').paths → p < 64
            few_paths p h = omega (arith, paths_in r rows', fit_with.paths_fit)

        pub prepares_with : PreparedWith asked selection r rows' tables''
        prepares_with = record {
          case = v.case;
          prepared = prepared_with;
          shape_there = rw v.shapes q.searchable.shape_known;
          node_there = rw v.nodes q.searchable.node_known;
          tabled = tabled_with;
        }
