-- Fresh shapes get their numbers: rows, rules and parts with references renumbered, and the loop that does it. Assumes nothing.
use Prim.Native.Nat.{ℕ, suc, ◌+◌, ◌-◌, ◌≤◌, ◌<◌}
use native.Mathlib.Omega.{arith}
use mathlib.Core.Path.{◌≡◌, refl, sym, ap, ◌∙◌}
use mathlib.Core.Logic.{◌⊎◌, inl, inr, ⊎_elim}
use mathlib.Core.Bool.{true, and-eq-true_iff}
use mathlib.Core.List.{List, [], ◌∷◌, ◌++◌, map, map-append}
use lib.ListN.{length, get_or, length-append, length-map, get_or-append}
use lib.Seq.{ext_get_or, get_or-append-add}
use lib.Dec.{eqb, ltb}
use borrow.Author.Tests.{lt-ltb, le-ltb, ltb-true}
use Rattle.fixpoint.specs.Lists.{up_to, all}
use Rattle.fixpoint.proofs.Lists.{tests, by_test, lt_cases, length_made, get_d_made, get_d_map, made_same, all_append}
use Rattle.cases.specs.declared.command.Row.{Row}
use Rattle.cases.specs.declared.command.ShapeRule.{ShapeRule}
use Rattle.cases.specs.declared.command.ShapeRule.TheVariants.{Top, Node, And, Or, Not, Same, All, AtLeast}
use Rattle.cases.specs.declared.counts.Counts.{Counts}
use Rattle.cases.specs.Case.{references}
use Rattle.cases.specs.Format.{edge_of, path_rule_of, shape_rule_of, target_of}
use Rattle.cases.specs.Parts.{Part, Named, Plain, Around, Joining, names, filled, size, inner_size, operand, rule, fresh, inside, rules, fresh_rules, expansion}
use Rattle.cases.specs.Rows.{row_in, edge_in, path_in, shape_in, target_in, case_in, Full}
use Rattle.parts.specs.Expanding.{renumbered_reference, renumbered_row, renumbered, source_row, ExpandRoom, ExpandedAs}
use Rattle.cases.specs.Rows.{put_row}
use Rattle.parts.specs.Tables.{rules_in}
use Rattle.cases.proofs.PutRows.{length_put_row, put_row_other, put_row_there}

-- ---- A row says its rule, renumbered too

pub row_renumbered : (w : ℕ) (r : Row) → shape_rule_of (renumbered_row w r) ≡ renumbered w (shape_rule_of r)
unfolding shape_rule_of renumbered_row renumbered
row_renumbered w r =
    by_test (eqb r.0 0x20) (λ e. simp e) (λ a.
    by_test (eqb r.0 0x21) (λ e. simp (a, e)) (λ b.
    by_test (eqb r.0 0x22) (λ e. simp (a, b, e)) (λ c.
    by_test (eqb r.0 0x23) (λ e. simp (a, b, c, e)) (λ d.
    by_test (eqb r.0 0x24) (λ e. simp (a, b, c, d, e)) (λ f.
    by_test (eqb r.0 0x25) (λ e. simp (a, b, c, d, f, e)) (λ g.
    by_test (eqb r.0 0x26) (λ e. simp (a, b, c, d, f, g, e)) (λ h. simp (a, b, c, d, f, g, h))))))))

-- ---- Parts: fresh shapes that were numbered from 256 on are numbered from the written ones on

module _ (w : ℕ) where
  reference_kept : (s : ℕ) → s < 256 → renumbered_reference w s ≡ s
  unfolding renumbered_reference
  reference_kept s h = rw (lt-ltb s 256 h)

  reference_moved : (f : ℕ) → renumbered_reference w (256 + f) ≡ w + f
  unfolding renumbered_reference
  reference_moved f = rw (le-ltb (256 + f) 256 (omega arith)) (omega arith)

  filled_renumbered : (r : ShapeRule) (s t : ℕ) → renumbered w (filled r s t) ≡ filled r (renumbered_reference w s) (renumbered_reference w t)
  unfolding renumbered filled
  filled_renumbered Top s t = refl
  filled_renumbered (Node a) s t = refl
  filled_renumbered (And _ _) s t = refl
  filled_renumbered (Or _ _) s t = refl
  filled_renumbered (Not _) s t = refl
  filled_renumbered (Same p q) s t = refl
  filled_renumbered (All p _) s t = refl
  filled_renumbered (AtLeast n p _) s t = refl

  -- names are numbers of one byte
  abbrev Bytes : List ℕ → Type 0
  Bytes l = all l (λ s. ltb s 256) ≡ true

  one_byte : (s : ℕ) (l : List ℕ) → Bytes (s ∷ l) → (s < 256) × Bytes l
  unfolding all
  one_byte s l h = let e = (and-eq-true_iff (ltb s 256) (all l (λ s. ltb s 256))).0 h in (ltb-true s 256 e.0, e.1)

  both_bytes : (l r : List ℕ) → Bytes (l ++ r) → Bytes l × Bytes r
  both_bytes l r h = (and-eq-true_iff (all l (λ s. ltb s 256)) (all r (λ s. ltb s 256))).0 (sym (all_append l r (λ s. ltb s 256)) ∙ h)

  plain_renumbered : (r : ShapeRule) → Bytes (references r) → renumbered w r ≡ r
  unfolding renumbered references
  plain_renumbered Top h = refl
  plain_renumbered (Node a) h = refl
  plain_renumbered (And s t) h =
      let a = one_byte s.0 (t.0 ∷ []) h in
      rw (reference_kept s.0 a.0, reference_kept t.0 (one_byte t.0 [] a.1).0)
  plain_renumbered (Or s t) h =
      let a = one_byte s.0 (t.0 ∷ []) h in
      rw (reference_kept s.0 a.0, reference_kept t.0 (one_byte t.0 [] a.1).0)
  plain_renumbered (Not s) h = rw (reference_kept s.0 (one_byte s.0 [] h).0)
  plain_renumbered (Same p q) h = refl
  plain_renumbered (All p s) h = rw (reference_kept s.0 (one_byte s.0 [] h).0)
  plain_renumbered (AtLeast n p s) h = rw (reference_kept s.0 (one_byte s.0 [] h).0)

  operand_moved : (f : ℕ) (x : Part) → Bytes (names x) → renumbered_reference w (operand (256 + f) x) ≡ operand (w + f) x
  unfolding operand names
  operand_moved f (Named s) h = reference_kept s (one_byte s [] h).0
  operand_moved f (Plain r) h = reference_moved f
  operand_moved f (Around r x) h = reference_moved f
  operand_moved f (Joining r x y) h = reference_moved f

  further : (b f n : ℕ) → b + f + n ≡ b + (f + n)
  further b f n = omega arith

  onward : (b f : ℕ) → suc (b + f) ≡ b + suc f
  onward b f = omega arith

  named_renumbered : (s : ℕ) → s < 256 → renumbered w (Or (record { 0 = s }) (record { 0 = s })) ≡ Or (record { 0 = s }) (record { 0 = s })
  unfolding renumbered
  named_renumbered s h = rw (reference_kept s h)

  rule_moved : (f : ℕ) (x : Part) → Bytes (names x) → renumbered w (rule (256 + f) x) ≡ rule (w + f) x
  unfolding rule names
  rule_moved f (Named s) h = named_renumbered s (one_byte s [] h).0
  rule_moved f (Plain r) h = plain_renumbered r h
  rule_moved f (Around r x) h =
      filled_renumbered r (operand (256 + f) x) (operand (256 + f) x) ∙ rw (operand_moved f x h)
  rule_moved f (Joining r x y) h =
      let both = both_bytes (names x) (names y) h in
      filled_renumbered r (operand (256 + f) x) (operand (256 + f + size x) y)
      ∙ rw (operand_moved f x both.0, further 256 f (size x), operand_moved (f + size x) y both.1, further w f (size x))

  fresh_moved : (f : ℕ) (x : Part) → Bytes (names x) → map (renumbered w) (fresh (256 + f) x) ≡ fresh (w + f) x
  unfolding fresh names
  fresh_moved f (Named s) h = refl
  fresh_moved f (Plain r) h = rw (plain_renumbered r h)
  fresh_moved f (Around r x) h = rw (onward 256 f, onward w f, rule_moved (suc f) (Around r x) h, fresh_moved (suc f) x h)
  fresh_moved f (Joining r x y) h =
      let both = both_bytes (names x) (names y) h in
      rw (onward 256 f, onward w f, rule_moved (suc f) (Joining r x y) h, map-append (renumbered w) (fresh (256 + suc f) x) (fresh (256 + suc f + size x) y))
      (rw (further 256 (suc f) (size x), further w (suc f) (size x), fresh_moved (suc f) x both.0, fresh_moved (suc f + size x) y both.1))

  inside_moved : (f : ℕ) (x : Part) → Bytes (names x) → map (renumbered w) (inside (256 + f) x) ≡ inside (w + f) x
  unfolding inside names
  inside_moved f (Named s) h = refl
  inside_moved f (Plain r) h = refl
  inside_moved f (Around r x) h = fresh_moved f x h
  inside_moved f (Joining r x y) h =
      let both = both_bytes (names x) (names y) h in
      map-append (renumbered w) (fresh (256 + f) x) (fresh (256 + f + size x) y)
      ∙ rw (further 256 f (size x), further w f (size x), fresh_moved f x both.0, fresh_moved (f + size x) y both.1)

  rules_moved : (f : ℕ) (l : List Part) → all l (λ x. all (names x) (λ s. ltb s 256)) ≡ true → map (renumbered w) (rules (256 + f) l) ≡ rules (w + f) l
  unfolding rules all
  rules_moved f [] h = refl
  rules_moved f (x ∷ l) h =
      let both = (and-eq-true_iff (all (names x) (λ s. ltb s 256)) (all l (λ x. all (names x) (λ s. ltb s 256)))).0 h in
      rw (rule_moved f x both.0, further 256 f (inner_size x), further w f (inner_size x), rules_moved (f + inner_size x) l both.1)

  fresh_rules_moved : (f : ℕ) (l : List Part) → all l (λ x. all (names x) (λ s. ltb s 256)) ≡ true
      → map (renumbered w) (fresh_rules (256 + f) l) ≡ fresh_rules (w + f) l
  unfolding fresh_rules all
  fresh_rules_moved f [] h = refl
  fresh_rules_moved f (x ∷ l) h =
      let both = (and-eq-true_iff (all (names x) (λ s. ltb s 256)) (all l (λ x. all (names x) (λ s. ltb s 256)))).0 h in
      map-append (renumbered w) (inside (256 + f) x) (fresh_rules (256 + f + inner_size x) l)
      ∙ rw (inside_moved f x both.0, further 256 f (inner_size x), further w f (inner_size x), fresh_rules_moved (f + inner_size x) l both.1)

-- the expansion, from rules that were numbered from 256 on
pub expansion_moved : (l : List Part) → all l (λ x. all (names x) (λ s. ltb s 256)) ≡ true
    → map (renumbered (length l)) (rules 256 l ++ fresh_rules 256 l) ≡ expansion l
unfolding expansion
expansion_moved l h =
    let w = length l in
    let z : w + 0 ≡ w = omega arith in
    map-append (renumbered w) (rules 256 l) (fresh_rules 256 l) ∙ rw (rules_moved w 0 l h, fresh_rules_moved w 0 l h, z)

-- ---- The loop: the first i shapes have their rows, all else is as it was

pub record Expanding (counts : Counts) (fresh : List ℕ) (count : ℕ) (rows₀ rows : List ℕ) (i : ℕ) : Type 0 where
  pub room : ExpandRoom counts fresh count rows₀
  pub within : i ≤ counts.shapes + count
  pub long : length rows ≡ length rows₀
  pub done : (j : ℕ) → j < i → row_in rows (1052 + j) ≡ renumbered_row counts.shapes (source_row rows₀ fresh counts.shapes j)
  pub kept : (j : ℕ) → (j < 1052) ⊎ (1052 + i ≤ j) → row_in rows j ≡ row_in rows₀ j

pub expanding_none : {counts : Counts} {fresh : List ℕ} {count : ℕ} {rows : List ℕ} → ExpandRoom counts fresh count rows → Expanding counts fresh count rows rows 0
expanding_none r = record { room = r; within = omega arith; long = refl; done = λ j h. absurd (omega arith); kept = λ j h. refl }

module _ {counts : Counts} {fresh : List ℕ} {count : ℕ} {rows₀ rows : List ℕ} {i : ℕ} (e : Expanding counts fresh count rows₀ rows i) where
  pub expanding_full : Full rows
  expanding_full = record { fits = omega (arith, e.long, e.room.full) }

  source_same : source_row rows fresh counts.shapes i ≡ source_row rows₀ fresh counts.shapes i
  unfolding source_row
  source_same = by_test (ltb i counts.shapes) (λ h. rw h (e.kept (1052 + i) (inr (omega arith)))) (λ h. rw h)

  pub expanding_more : {row new : Row} → row ≡ source_row rows fresh counts.shapes i → new ≡ renumbered_row counts.shapes row → i < counts.shapes + count
      → {rows' : List ℕ} → rows' ≡ put_row rows (1052 + i) new → Expanding counts fresh count rows₀ rows' (i + 1)
  expanding_more {new = new} s n h p =
      let q : new ≡ renumbered_row counts.shapes (source_row rows₀ fresh counts.shapes i) = n ∙ rw (s, source_same) in
      rw p (record {
        room = e.room;
        within = omega arith;
        long = length_put_row rows (1052 + i) new ∙ e.long;
        done = λ j k.
            ⊎_elim
            (λ a. put_row_other rows (1052 + i) new (1052 + j) (λ z. omega arith) ∙ e.done j a)
            (λ a. let z : j ≡ i = omega arith in rw z (put_row_there rows (1052 + i) new (omega (arith, e.long, e.room.full, e.room.few)) ∙ q))
            (lt_cases j i);
        kept = λ j k. put_row_other rows (1052 + i) new j (λ z. ⊎_elim (λ a. omega arith) (λ a. omega arith) k) ∙ e.kept j (⊎_elim (λ a. inl a) (λ a. inr (omega arith)) k);
      })

  -- the rule of shape j, from its source
  shape_done : (j : ℕ) → j < i → shape_rule_of (row_in rows (1052 + j)) ≡ renumbered counts.shapes (shape_rule_of (source_row rows₀ fresh counts.shapes j))
  shape_done j h = ap shape_rule_of (e.done j h) ∙ row_renumbered counts.shapes (source_row rows₀ fresh counts.shapes j)

  sources : (j : ℕ) (d : ShapeRule) → j < counts.shapes + count
      → get_or (map (shape_in rows₀) (up_to counts.shapes) ++ rules_in fresh count) j d ≡ shape_rule_of (source_row rows₀ fresh counts.shapes j)
  unfolding source_row shape_in rules_in
  sources j d h =
      let l = map (shape_in rows₀) (up_to counts.shapes) in
      let n : length l ≡ counts.shapes = length_made (shape_in rows₀) counts.shapes in
      by_test (ltb j counts.shapes)
      (λ b. rw b (get_or-append l (rules_in fresh count) d j (omega (arith, tests)) ∙ get_d_made (shape_in rows₀) counts.shapes j d (omega (arith, tests))))
      (λ b.
      let k : j ≡ length l + (j - counts.shapes) = omega (arith, tests) in
      rw b (ap (λ m. get_or (l ++ rules_in fresh count) m d) k ∙ get_or-append-add l (rules_in fresh count) (j - counts.shapes) d
      ∙ get_d_made (λ m. shape_rule_of (row_in fresh m)) count (j - counts.shapes) d (omega (arith, tests))))

  shapes_done : counts.shapes + count ≤ i
      → map (shape_in rows) (up_to (counts.shapes + count)) ≡ map (renumbered counts.shapes) (map (shape_in rows₀) (up_to counts.shapes) ++ rules_in fresh count)
  unfolding shape_in rules_in
  shapes_done h =
      let n = counts.shapes + count in
      let l = map (shape_in rows₀) (up_to counts.shapes) ++ rules_in fresh count in
      let long : length l ≡ n =
      length-append (map (shape_in rows₀) (up_to counts.shapes)) (rules_in fresh count)
      ∙ rw (length_made (shape_in rows₀) counts.shapes, length_made (λ m. shape_rule_of (row_in fresh m)) count) in
      ext_get_or Top _ _ (length_made (shape_in rows) n ∙ sym (simp length-map long))
      (λ j k.
      let b : j < n = omega (arith, length_made (shape_in rows) n) in
      get_d_made (shape_in rows) n j Top b ∙ shape_done j (omega arith) ∙ sym (get_d_map (renumbered counts.shapes) l j Top Top (omega arith) ∙ rw (sources j Top b)))

  -- all rows have been put
  pub expanding_done : counts.shapes + count ≤ i
      → ExpandedAs counts fresh count rows₀ (record { nodes = counts.nodes; edges = counts.edges; paths = counts.paths; shapes = counts.shapes + count; targets = counts.targets }) rows
  unfolding case_in edge_in path_in target_in
  expanding_done h =
      let edges = made_same (edge_in rows) (edge_in rows₀) counts.edges (λ j k. ap edge_of (e.kept j (inl (omega (arith, e.room.edges))))) in
      let paths = made_same (path_in rows) (path_in rows₀) counts.paths (λ j k. ap path_rule_of (e.kept (1036 + j) (inl (omega (arith, e.room.paths))))) in
      let targets = made_same (target_in rows) (target_in rows₀) counts.targets (λ j k. ap target_of (e.kept (1084 + j) (inr (omega (arith, e.within, e.room.few))))) in
      record { case_is = rw (edges, paths, targets, shapes_done h); long = e.long }
