-- The chosen candidates in rows, the edges of a case with them, and the case that the rows hold. Assumes nothing.
use Prim.Native.Nat.{ℕ, zero, suc, ◌+◌, ◌-◌, ◌*◌, ◌≤◌, ◌<◌}
use native.Mathlib.Omega.{arith}
use mathlib.Core.Path.{◌≡◌, refl, sym, ap, ap₂, ◌∙◌}
use mathlib.Core.Logic.{⊎_elim}
use mathlib.Core.Bool.{Bool, true, false, cond}
use mathlib.Core.List.{List, [], ◌∷◌, ◌++◌, map, append-nil, append_assoc, map-append, map-map}
use lib.ListN.{length, get_or, take}
use lib.Seq.{get_or-take, length-take-le}
use borrow.Rule.Slice.PartMut.{put_mid}
use Rattle.std.proofs.Common.{rules}
use Rattle.std.proofs.lemmas.List.{places}
use Rattle.bitset.specs.Words.{bit}
use Rattle.cases.specs.Counts.{Fit}
use Rattle.cases.specs.Faults.{laid}
use Rattle.cases.specs.Format.{edge_of, path_rule_of, shape_rule_of, target_of}
use Rattle.cases.specs.Rows.{row_in, put_row, edge_in, path_in, shape_in, target_in, case_in}
use Rattle.cases.specs.declared.command.Edge.{Edge}
use Rattle.cases.specs.declared.command.Row.{Row}
use Rattle.cases.specs.declared.counts.Counts.{Counts}
use Rattle.cases.proofs.PutRows.{length_put_row, put_row_other, put_row_there, kind_more}
use Rattle.fixpoint.specs.Lists.{from, up_to, keep}
use Rattle.fixpoint.proofs.Lists.{by_test, lt_cases, made_same, up_to_snoc, keep_append}
use Rattle.semantics.specs.Adding.{candidate_at, candidate_count, chooses, chosen, unparked, with_links}
use Rattle.semantics.specs.Parking.{with_edges}
use Rattle.adding.specs.Choosing.{first_edges, ChosenTo, Behind, EdgesLaid, RowsWith}

-- ---- The chosen ones

-- a number's bits are what it chooses
pub chooses_bit : (selection i : ℕ) → chooses selection i ≡ bit selection i
unfolding chooses bit
chooses_bit selection i = refl

-- one candidate more
kept_more : (list : List ℕ) (selection i : ℕ)
    → map (candidate_at list) (keep (up_to (i + 1)) (chooses selection))
    ≡ map (candidate_at list) (keep (up_to i) (chooses selection)) ++ cond (chooses selection i) (candidate_at list i ∷ []) []
unfolding keep
kept_more list selection i =
    let f = candidate_at list in
    let e : i + 1 ≡ suc i = omega arith in
    rw (e, up_to_snoc i, keep_append (up_to i) (i ∷ []) (chooses selection), map-append f (keep (up_to i) (chooses selection)) (keep (i ∷ []) (chooses selection)))
    (by_test (chooses selection i) (λ y. rw y) (λ n. rw n))

module _ (list : List ℕ) (selection : ℕ) where
  pub chosen_none : {rows : List ℕ} → 48 ≤ length rows → ChosenTo list selection 0 0 rows
  unfolding up_to from keep
  chosen_none h = record { edges = refl; few = omega arith; most = omega arith; room = h }

  module _ {i n : ℕ} {rows : List ℕ} (v : ChosenTo list selection i n rows) (h : i < candidate_count list) {there : Bool} (said : there ≡ bit selection i) where
    pub chosen_skipped : there ≡ false → ChosenTo list selection (i + 1) n rows
    chosen_skipped f = record {
      edges = v.edges ∙ sym (kept_more list selection i ∙ rw (chooses_bit selection i, ← said, f) (append-nil _));
      few = omega (arith, v.few);
      most = omega arith;
      room = v.room;
    }

    pub chosen_taken : there ≡ true → i < 12 → (row : Row) → edge_of row ≡ candidate_at list i → {rows' : List ℕ} → rows' ≡ put_row rows n row
        → ChosenTo list selection (i + 1) (n + 1) rows'
    unfolding edge_in
    chosen_taken y few row e f = rw f (record {
      edges = kind_more rows n row edge_of (λ j. j) n refl (λ j g z. omega arith) (omega (arith, v.few, v.room)) e
          ∙ ap (λ l. l ++ (candidate_at list i ∷ [])) v.edges
          ∙ sym (kept_more list selection i ∙ rw (chooses_bit selection i, ← said, y));
      few = omega (arith, v.few);
      most = omega arith;
      room = omega (arith, v.room, length_put_row rows n row);
    })

-- ---- An edge command that may be chosen

module _ (l : List Edge) (row : Row) {edge : Edge} (read : edge ≡ edge_of row) where
  -- an 02 is one either way
  pub laid_stays : edge.code ≡ 0x02 → edge_of row ≡ unparked l (edge_of row)
  unfolding unparked
  laid_stays e =
      let code : row.0 ≡ 0x02 = sym (ap (λ x. x.code) read) ∙ e in
      by_test (laid l (edge_of row)) (λ y. rw (y, code)) (λ n. rw n)

  module _ {found : Bool} (said : found ≡ laid l edge) where
    there : found ≡ laid l (edge_of row)
    there = said ∙ ap (laid l) read

    pub parked_laid : found ≡ true → edge_of (0x02, row.1, row.2, row.3) ≡ unparked l (edge_of row)
    unfolding unparked
    parked_laid y = rw (← there, y)

    pub unchosen_stays : found ≡ false → edge_of row ≡ unparked l (edge_of row)
    unfolding unparked
    unchosen_stays n = rw (← there, n)

-- ---- The edges of the case

module _ {slice rows : List ℕ} (v : Behind slice rows) {n : ℕ} (h : n < 1036) (row : Row) where
  -- a row of an edge leaves what is behind the edges
  behind_kept : Behind slice (put_row rows n row)
  behind_kept = record {
    others = λ i l m. put_row_other rows n row i (λ e. omega arith) ∙ v.others i l m;
    full = record { fits = omega (arith, v.full.fits, length_put_row rows n row) };
  }

-- the edges below i are there
pub record LayingEdges (m : ℕ) (slice : List ℕ) (n : ℕ) (picked before : List ℕ) (i : ℕ) (rows : List ℕ) : Type 0 where
  pub few : m ≤ 1024
  pub laid : EdgesLaid i slice n picked rows
  pub most : i ≤ m
  pub long : length rows ≡ length before

module _ {m : ℕ} {slice : List ℕ} {n : ℕ} {picked before : List ℕ} where
  module _ {i : ℕ} {rows : List ℕ} (h : i < m) (v : LayingEdges m slice n picked before i rows) where
    pub edges_room : 4 * i + 4 ≤ length rows
    edges_room = omega (arith, v.few, v.laid.behind.full.fits)

    pub edges_more : {source row : Row} {rows' : List ℕ} → source ≡ row_in slice i → edge_of row ≡ unparked (first_edges picked n) (edge_of source)
        → rows' ≡ put_row rows i row → LayingEdges m slice n picked before (i + 1) rows'
    unfolding edge_in
    edges_more {source} {row} e f g = rw g (record {
      few = v.few;
      laid = record {
        edges = λ j l.
            ⊎_elim
            (λ b. ap edge_of (put_row_other rows i row j (λ z. omega arith)) ∙ v.laid.edges j b)
            (λ b. let z : j ≡ i = omega arith in
            rw z (ap edge_of (put_row_there rows i row edges_room) ∙ f ∙ ap (λ r. unparked (first_edges picked n) (edge_of r)) e))
            (lt_cases j i);
        behind = behind_kept v.laid.behind (omega (arith, v.few)) row;
      };
      most = omega arith;
      long = length_put_row rows i row ∙ v.long;
    })

-- ---- The chosen ones behind them: a part of the rows is n rows of another table

made_none : {A : Type 0} (f : ℕ → A) → [] ≡ map f (up_to 0)
unfolding up_to from
made_none f = refl

made_on : {A : Type 0} (f : ℕ → A) (m n : ℕ) → map f (up_to (m + n)) ≡ map f (up_to m) ++ map (λ j. f (m + j)) (up_to n)
made_on f m zero = let e : m + 0 ≡ m = omega arith in rw e (sym (append-nil _) ∙ ap (λ l. map f (up_to m) ++ l) (made_none (λ j. f (m + j))))
made_on f m (suc n) =
    let e : m + suc n ≡ suc (m + n) = omega arith in
    let g = λ (j : ℕ). f (m + j) in
    rw (e, up_to_snoc (m + n), up_to_snoc n, map-append f (up_to (m + n)) ((m + n) ∷ []), map-append g (up_to n) (n ∷ []), made_on f m n)
    (append_assoc (map f (up_to m)) (map g (up_to n)) (f (m + n) ∷ []))

module _ (rows part : List ℕ) (m n : ℕ) (room : 4 * m + 4 * n ≤ length rows) (long : length part ≡ 4 * n) where
  abbrev rows' : List ℕ
  rows' = put_mid (4 * m) (4 * n) rows part

  part_before : (j : ℕ) → j < 4 * m → get_or rows' j 0 ≡ get_or rows j 0
  part_before j h = search (rules, places)

  part_there : (i j : ℕ) → i ≡ 4 * m + j → j < 4 * n → get_or rows' i 0 ≡ get_or part j 0
  part_there i j e h = rw e (search (rules, places))

  part_behind : (j : ℕ) → 4 * m + 4 * n ≤ j → get_or rows' j 0 ≡ get_or rows j 0
  part_behind j h = search (rules, places)

  rows_long : length rows' ≡ length rows
  rows_long = search (rules, places)

  rows_before : (i : ℕ) → i < m → row_in rows' i ≡ row_in rows i
  rows_before i h =
      rw (part_before (4 * i) (omega arith), part_before (4 * i + 1) (omega arith), part_before (4 * i + 2) (omega arith), part_before (4 * i + 3) (omega arith))

  rows_there : (j : ℕ) → j < n → row_in rows' (m + j) ≡ row_in part j
  rows_there j h =
      let at = λ (d : ℕ) (l : d < 4). part_there (4 * (m + j) + d) (4 * j + d) (omega arith) (omega arith) in
      rw (part_there (4 * (m + j)) (4 * j) (omega arith) (omega arith), at 1 (omega arith), at 2 (omega arith), at 3 (omega arith))

  rows_behind : (i : ℕ) → m + n ≤ i → row_in rows' i ≡ row_in rows i
  rows_behind i h =
      rw (part_behind (4 * i) (omega arith), part_behind (4 * i + 1) (omega arith), part_behind (4 * i + 2) (omega arith), part_behind (4 * i + 3) (omega arith))

-- ---- The case that the rows hold

module _ (list : List ℕ) (selection : ℕ) {picked : List ℕ} {n : ℕ} (short : length list ≤ 60) (u : ChosenTo list selection (candidate_count list) n picked) where
  pub chosen_few : n ≤ 12
  chosen_few = omega (arith, u.few)

  pub chosen_fit : 4 * n ≤ length picked
  chosen_fit = omega (arith, u.few, u.room)

  module _ (counts : Counts) (limit : counts.edges ≤ 1024) {slice rows : List ℕ} (v : EdgesLaid counts.edges slice n picked rows) where
    pub chosen_within : 4 * counts.edges + 4 * n ≤ length rows
    chosen_within = omega (arith, chosen_few, v.behind.full.fits)

    pub rows_hold : Fit counts → {part : List ℕ} → part ≡ take (4 * n) picked
        → RowsWith counts slice list selection
        (record { nodes = counts.nodes; edges = counts.edges + n; paths = counts.paths; shapes = counts.shapes; targets = counts.targets })
        (put_mid (4 * counts.edges) (4 * counts.edges + 4 * n - 4 * counts.edges) rows part)
    unfolding case_in with_links with_edges chosen edge_in path_in shape_in target_in
    rows_hold fit {part} e =
        let m = counts.edges in
        let t = put_mid (4 * m) (4 * n) rows part in
        let count : 4 * m + 4 * n - 4 * m ≡ 4 * n = omega arith in
        let long : length part ≡ 4 * n = ap length e ∙ length-take-le (4 * n) picked chosen_fit in
        let behind : (i : ℕ) → 1036 ≤ i → i < 1340 → row_in t i ≡ row_in slice i =
        λ i a b. rows_behind rows part m n chosen_within long i (omega (arith, chosen_few)) ∙ v.behind.others i a b in
        let taken : (j : ℕ) → j < 4 * n → get_or part j 0 ≡ get_or picked j 0 = λ j h. ap (λ l. get_or l j 0) e ∙ get_or-take (4 * n) picked j 0 h in
        let all_chosen : first_edges picked n ≡ chosen list selection = u.edges in
        let edges : first_edges t (m + n) ≡ map (unparked (first_edges picked n)) (first_edges slice m) ++ first_edges picked n =
        made_on (edge_in t) m n
        ∙ ap₂ (λ a b. a ++ b)
        (made_same (edge_in t) (λ i. unparked (first_edges picked n) (edge_in slice i)) m
        (λ i h. ap edge_of (rows_before rows part m n chosen_within long i h) ∙ v.edges i h)
        ∙ sym (map-map (unparked (first_edges picked n)) (edge_in slice) (up_to m)))
        (made_same (λ j. edge_in t (m + j)) (edge_in picked) n
        (λ j h. ap edge_of (rows_there rows part m n chosen_within long j h
        ∙ rw (taken (4 * j) (omega arith), taken (4 * j + 1) (omega arith), taken (4 * j + 2) (omega arith), taken (4 * j + 3) (omega arith))))) in
        rw count (record {
          case =
              λ i. record {
                nodes = counts.nodes;
                edges = (edges ∙ ap (λ l. map (unparked l) (first_edges slice counts.edges) ++ l) all_chosen) i;
                paths = made_same (path_in t) (path_in slice) counts.paths (λ p h. ap path_rule_of (behind (1036 + p) (omega arith) (omega (arith, fit.paths_fit)))) i;
                shapes = made_same (shape_in t) (shape_in slice) counts.shapes (λ s h. ap shape_rule_of (behind (1052 + s) (omega arith) (omega (arith, fit.shapes_fit)))) i;
                targets = made_same (target_in t) (target_in slice) counts.targets (λ t h. ap target_of (behind (1084 + t) (omega arith) (omega (arith, fit.targets_fit)))) i;
              };
          nodes = refl;
          paths = refl;
          shapes = refl;
          targets = refl;
          few = omega (arith, chosen_few);
          behind = record {
            others = behind;
            full = record { fits = omega (arith, v.behind.full.fits, rows_long rows part m n chosen_within long) };
          };
        })
