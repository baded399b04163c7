-- The values of the written shapes decide all: a supported assignment of the expansion, cut to them, obeys the words of the parts, and values
-- that obey these are the cut of exactly one supported assignment. Document 02, point 2, and document 000, proposition 4.2.
--
-- The idea: a part's value is made of the values of the written shapes that it names; so these give every shape, fresh ones too, the value of
-- its part, and an assignment is supported exactly where every shape has it. Assumes nothing.
use Prim.Native.Nat.{ℕ, ◌+◌, ◌*◌, ◌/◌, ◌%◌, ◌≤◌, ◌<◌}
use native.Mathlib.Nat.{le_refl, mul-zero, mul-le-mul, lt_of_mul-lt-mul_left, mod-lt, div-add-mod', div-lt_iff_lt-mul}
use native.Mathlib.Omega.{arith}
use mathlib.Core.Path.{◌≡◌, refl, sym, ap, ◌∙◌}
use mathlib.Core.Logic.{⊎_elim}
use mathlib.Core.Bool.{Bool, true, and-eq-true_iff}
use mathlib.Core.List.{List, [], ◌∷◌, ◌++◌, map}
use lib.Arith.{digits_lt}
use lib.ListN.{length, get_or, length-append, get_or-append, get_or-eq_default}
use lib.Seq.{length-take-le, get_or-take, ext_get_or}
use lib.Dec.{eqb, ltb}
use borrow.Author.Tests.{eqb-true, ltb-true, leb-true, le-leb}
use Rattle.fixpoint.specs.Lists.{up_to, any, all}
use Rattle.fixpoint.proofs.Lists.{by_test, lt_cases, any_in, all_in, all_append, all_up_to_of, all_up_to_in, length_made, get_d_made}
use Rattle.cases.specs.Case.{Case, references}
use Rattle.cases.specs.Parts.{Part, Named, Plain, Around, Joining, names, filled, expansion}
use Rattle.cases.proofs.Expansion.{length_expansion, below, names_both}
use Rattle.semantics.specs.Nested.{part_value, opens, opens_inside, deeper, Obeying, written_values, Extends, ExtendsOnce}
use Rattle.semantics.specs.Values.{pair_count, pair_of, shape_of, node_of, entry_at, is_value, valued, supported_at, supported}
use Rattle.semantics.proofs.Kernel.{first_among}
use Rattle.semantics.proofs.Nesting.{rule_agrees, length_deeper, supported_said, said_supported, part_means}
use Rattle.semantics.proofs.Pairs.{pair_below, node_below, shape_of_pair, node_of_pair}
use Rattle.semantics.proofs.Thresholds.{value_at_most}

-- ---- The shapes that a part names, and those that the parts inside it name

module _ (w : ℕ) where
  -- each of them is below w, where all are
  below_at : (l : List ℕ) → below w l ≡ true → (s : ℕ) → any l (λ t. eqb t s) ≡ true → s < w
  below_at l h s e =
      let r = any_in l (λ t. eqb t s) e in
      ltb-true s w (rw (eqb-true _ s (r.2 0)) at (all_in l (λ t. ltb t w) h r.0 0 r.1))

  -- then those that an inner part, one inside a part, and one inside any of the written parts name are below w too
  abbrev names_below : Part → Bool
  names_below x = below w (names x)

  opens_below : (x : Part) → names_below x ≡ true → all (opens x) names_below ≡ true
  unfolding opens names all
  opens_below (Named s) h = refl
  opens_below (Plain r) h = rw h
  opens_below (Around r x) h = rw h (opens_below x h)
  opens_below (Joining r x y) h =
      let both = names_both w x y h in
      rw (h, all_append (opens x) (opens y) names_below, opens_below x both.0) (opens_below y both.1)

  inside_below : (x : Part) → names_below x ≡ true → all (opens_inside x) names_below ≡ true
  unfolding opens_inside names all
  inside_below (Named s) h = refl
  inside_below (Plain r) h = refl
  inside_below (Around r x) h = opens_below x h
  inside_below (Joining r x y) h =
      let both = names_both w x y h in
      rw (all_append (opens x) (opens y) names_below, opens_below x both.0) (opens_below y both.1)

  deeper_below : (l : List Part) → all l names_below ≡ true → all (deeper l) names_below ≡ true
  unfolding deeper all
  deeper_below [] h = refl
  deeper_below (x ∷ l) h =
      let both = (and-eq-true_iff (names_below x) (all l names_below)).0 h in
      rw (all_append (opens_inside x) (deeper l) names_below, inside_below x both.0) (deeper_below l both.1)

-- ---- A part's value

module _ (c : Case) where
  -- it is the same where the shapes that it names have the same values
  part_agrees : (w : ℕ) (u v : ℕ → ℕ → ℕ) → ((s b : ℕ) → s < w → b < c.nodes → u s b ≡ v s b) → (x : Part) → below w (names x) ≡ true
      → (a : ℕ) → a < c.nodes → part_value c u x a ≡ part_value c v x a
  unfolding part_value names
  part_agrees w u v e (Named s) k a h = e s a (below_at w (s ∷ []) k s (first_among s [])) h
  part_agrees w u v e (Plain r) k a h = rule_agrees c u v r a h (λ s b i. e s b (below_at w (references r) k s i))
  part_agrees w u v e (Around r x) k a h = rule_agrees c _ _ r a h (λ s b i. part_agrees w u v e x k b)
  part_agrees w u v e (Joining r x y) k a h =
      let both = names_both w x y k in
      rule_agrees c _ _ (filled r 0 1) a h (λ s b i m. rw (part_agrees w u v e x both.0 b m, part_agrees w u v e y both.1 b m))

  -- and a value where these have values
  part_at_most : (v : ℕ → ℕ → ℕ) → ((s b : ℕ) → v s b ≤ 2) → (x : Part) (a : ℕ) → a < c.nodes → part_value c v x a ≤ 2
  unfolding part_value
  part_at_most v small (Named s) a h = small s a
  part_at_most v small (Plain r) a h = value_at_most c v r a h (λ s b i m. small s b)
  part_at_most v small (Around r x) a h = value_at_most c _ r a h (λ s b i. part_at_most v small x b)
  part_at_most v small (Joining r x y) a h =
      value_at_most c _ (filled r 0 1) a h
      (λ s b i m. by_test (eqb s 0) (λ e. rw e (part_at_most v small x b m)) (λ e. rw e (part_at_most v small y b m)))

-- ---- Lists by pair

module _ (c : Case) where
  -- lists of w shapes' entries are equal where the entries are
  same_entries : (w : ℕ) (u v : List ℕ) → length u ≡ w * c.nodes → length v ≡ w * c.nodes
      → ((s a : ℕ) → s < w → a < c.nodes → entry_at c u s a ≡ entry_at c v s a) → u ≡ v
  unfolding entry_at pair_of
  same_entries w u v hu hv f =
      let n = c.nodes in
      ext_get_or 0 u v (hu ∙ sym hv)
      (λ k h.
      let some : 0 < n = lt_of_mul-lt-mul_left w (rw (mul-zero w) (omega arith)) in
      rw (div-add-mod' k n) at (f (k / n) (k % n) ((div-lt_iff_lt-mul some).1 (omega arith)) (mod-lt k some)))

  -- an assignment that is supported has values
  supported_value : (v : List ℕ) → supported c v ≡ true → (k : ℕ) → k < pair_count c → get_or v k 0 ≤ 2
  unfolding supported valued is_value
  supported_value v h k b =
      let each = ((and-eq-true_iff (valued c v) (all (up_to (pair_count c)) (supported_at c v))).0 h).0 in
      leb-true (get_or v k 0) 2 (all_up_to_in (pair_count c) (is_value v) each k b)

module _ (c : Case) (l : List Part) (e : c.shapes ≡ expansion l) where
  -- ---- The cut

  -- there is a part for each shape, and the pairs of the written shapes come first
  length_shapes : length c.shapes ≡ length (l ++ deeper l)
  length_shapes = ap length e ∙ length_expansion l ∙ rw (length-append l (deeper l), length_deeper l)

  written_first : length l * c.nodes ≤ pair_count c
  unfolding pair_count
  written_first = mul-le-mul (omega (arith, length_shapes, length-append l (deeper l))) (le_refl c.nodes)

  -- the cut has their entries, which are values
  length_cut : (v : List ℕ) → length v ≡ pair_count c → length (written_values c l v) ≡ length l * c.nodes
  unfolding written_values
  length_cut v h = length-take-le (length l * c.nodes) v (omega (arith, written_first))

  cut_entry : (v : List ℕ) (s a : ℕ) → s < length l → a < c.nodes → entry_at c (written_values c l v) s a ≡ entry_at c v s a
  unfolding written_values entry_at pair_of
  cut_entry v s a h k = get_or-take (length l * c.nodes) v (s * c.nodes + a) 0 (digits_lt h k)

  cut_value : (v : List ℕ) → length v ≡ pair_count c → supported c v ≡ true → (k : ℕ) → k < length (written_values c l v) → get_or (written_values c l v) k 0 ≤ 2
  unfolding written_values
  cut_value v whole h k b =
      rw (get_or-take (length l * c.nodes) v k 0 (omega (arith, length_cut v whole)))
      (supported_value c v h k (omega (arith, length_cut v whole, written_first)))

  module _ (named : all l (λ x. below (length l) (names x)) ≡ true) where
    -- and so obeys the words of the parts, which name no other shapes
    pub cut_obeys : (v : List ℕ) → length v ≡ pair_count c → supported c v ≡ true → Obeying c l (written_values c l v)
    cut_obeys v whole h =
        record {
          whole = length_cut v whole;
          values = cut_value v whole h;
          words = λ i a d b m.
              cut_entry v i a b m ∙ part_means c l e v h i a d b m
              ∙ part_agrees c (length l) (entry_at c v) (entry_at c (written_values c l v)) (λ s b p q. sym (cut_entry v s b p q))
              (get_or l i d) (all_in l _ named i d b) a m;
        }

    -- ---- The extension: every shape has the value of its part in the values of the written ones

    -- the part of a shape, written or fresh; it names written shapes
    abbrev part_of : ℕ → Part
    part_of s = get_or (l ++ deeper l) s (Named 0)

    part_known : (s : ℕ) → s < length (l ++ deeper l) → below (length l) (names (part_of s)) ≡ true
    part_known s h =
        let t : Part → Bool = names_below (length l) in
        all_in (l ++ deeper l) t (rw (all_append l (deeper l) t, named) (deeper_below (length l) l named)) s (Named 0) h

    module _ (u : List ℕ) (o : Obeying c l u) where
      -- the value of a pair; and of all, which are each shape's at each node
      words_at : ℕ → ℕ
      words_at k = part_value c (entry_at c u) (part_of (shape_of c k)) (node_of c k)

      extended : List ℕ
      extended = map words_at (up_to (pair_count c))

      extended_entry : (s a : ℕ) → s < length (l ++ deeper l) → a < c.nodes → entry_at c extended s a ≡ part_value c (entry_at c u) (part_of s) a
      unfolding entry_at extended words_at
      extended_entry s a h k =
          get_d_made words_at (pair_count c) (pair_of c s a) 0 (pair_below c s a (omega (arith, length_shapes)) k)
          ∙ rw (shape_of_pair c s a k, node_of_pair c s a k)

      -- the written shapes keep theirs
      extended_written : (s a : ℕ) → s < length l → a < c.nodes → entry_at c extended s a ≡ entry_at c u s a
      extended_written s a h k =
          extended_entry s a (omega (arith, length-append l (deeper l))) k
          ∙ rw (get_or-append l (deeper l) (Named 0) s h) (sym (o.words s a (Named 0) h k))

      -- all are values
      entry_small : (s a : ℕ) → entry_at c u s a ≤ 2
      unfolding entry_at
      entry_small s a =
          let k = pair_of c s a in
          ⊎_elim (o.values k) (λ h. rw (get_or-eq_default u 0 h) (omega arith)) (lt_cases k (length u))

      extended_valued : valued c extended ≡ true
      unfolding valued is_value extended words_at
      extended_valued =
          all_up_to_of (pair_count c) (is_value extended)
          (λ k h. le-leb (get_or extended k 0) 2
          (rw (get_d_made words_at (pair_count c) k 0 h) (part_at_most c (entry_at c u) entry_small (part_of (shape_of c k)) (node_of c k) (node_below c k h))))

      extended_length : length extended ≡ pair_count c
      unfolding extended
      extended_length = length_made words_at (pair_count c)

      -- a list that has theirs at the written shapes gives each part the same value
      part_kept : (v : List ℕ) → ((s a : ℕ) → s < length l → a < c.nodes → entry_at c v s a ≡ entry_at c u s a)
          → (s a : ℕ) → s < length (l ++ deeper l) → a < c.nodes → part_value c (entry_at c v) (part_of s) a ≡ part_value c (entry_at c u) (part_of s) a
      part_kept v f s a h k = part_agrees c (length l) (entry_at c v) (entry_at c u) f (part_of s) (part_known s h) a k

      extended_extends : Extends c l u extended
      extended_extends =
          record {
            whole = extended_length;
            is_supported =
                said_supported c l e extended extended_valued (Named 0)
                (λ s a h k. extended_entry s a h k ∙ sym (part_kept extended extended_written s a h k));
            cut_is =
                same_entries c (length l) (written_values c l extended) u (length_cut extended extended_length) o.whole
                (λ s a h k. cut_entry extended s a h k ∙ extended_written s a h k);
          }

      -- a supported assignment with this cut gives each shape the value of its part, and so is the extension
      extended_only : (v : List ℕ) → Extends c l u v → v ≡ extended
      unfolding pair_count
      extended_only v x =
          let written : (s a : ℕ) → s < length l → a < c.nodes → entry_at c v s a ≡ entry_at c u s a =
          λ s a h k. rw x.cut_is at (sym (cut_entry v s a h k)) in
          same_entries c (length c.shapes) v extended x.whole extended_length
          (λ s a h k.
          let b : s < length (l ++ deeper l) = omega (arith, length_shapes) in
          supported_said c l e v x.is_supported s a (Named 0) b k ∙ part_kept v written s a b k ∙ sym (extended_entry s a b k))

      pub extends_once : ExtendsOnce c l u
      extends_once = record { extension = extended; extends = extended_extends; only = extended_only }
