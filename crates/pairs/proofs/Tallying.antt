-- The pairs of targets, their verdicts put into a table, and tallies of bytes, of targets and of a node's pairs. Assumes nothing.
use Prim.Native.Nat.{ℕ, zero, suc, ◌+◌, ◌*◌, ◌≤◌, ◌<◌}
use native.Mathlib.Numerals.{add-one}
use native.Mathlib.Omega.{arith}
use mathlib.Core.Path.{◌≡◌, refl, sym, ap, ◌∙◌}
use mathlib.Core.Bool.{Bool, true, cond}
use mathlib.Core.List.{List, [], ◌∷◌, map, map-map}
use lib.Arith.{digits_lt}
use lib.Dec.{eqb, ltb}
use lib.ListN.{length, get_or, take}
use lib.Seq.{length-take-le, get_or-take, ext_get_or}
use mir.Syntax.{w64}
use mir.Val.{Fits}
use borrow.Author.Tests.{ltb-true}
use Rattle.std.specs.List.{count_by, filter, range_with_len}
use Rattle.std.proofs.lemmas.List.Sums.{length-filter}
use Rattle.std.proofs.lemmas.List.Recursion.{is_count_by}
use Rattle.fixpoint.specs.Entries.{Put}
use Rattle.fixpoint.specs.Lists.{up_to, from, all, count}
use Rattle.fixpoint.proofs.Entries.{put_all}
use Rattle.fixpoint.proofs.Lists.{by_test, length_made, get_d_made, made_more, count_append, count_le_length, all_map, all_up_to_in}
use Rattle.cases.specs.Counts.{size_of}
use Rattle.cases.specs.Rows.{CaseIn, case_in, target_in}
use Rattle.cases.specs.declared.command.Target.{Target}
use Rattle.cases.specs.declared.counts.Counts.{Counts}
use Rattle.cases.proofs.InRows.{nodes_in, shapes_in, targets_in}
use Rattle.semantics.specs.Operations.{tally}
use Rattle.semantics.specs.Solving.{target_values}
use Rattle.semantics.specs.Values.{pair_of}
use Rattle.pairs.specs.Values.{value_in, node_values, target_pair, VerdictsWritten}

-- Target i of a sound case is one of its pairs: it passes each test that all targets pass
passes : (counts : Counts) (rows : List ℕ) (test : Target → Bool) → all (case_in counts rows).targets test ≡ true
    → (i : ℕ) → i < counts.targets → test (target_in rows i) ≡ true
passes counts rows test h =
    all_up_to_in counts.targets (λ j. test (target_in rows j)) (sym (all_map (target_in rows) (up_to counts.targets) test) ∙ rw (targets_in counts rows) at h)

module _ {counts : Counts} {rows : List ℕ} {i : ℕ} (r : CaseIn counts rows) (h : i < counts.targets) where
  shape_below : (target_in rows i).shape.0 < counts.shapes
  shape_below = ltb-true _ _ (rw (shapes_in counts rows) at (passes counts rows (λ t. ltb t.shape.0 (length (case_in counts rows).shapes)) r.sound.targets_named i h))

  node_below : (target_in rows i).node.0 < counts.nodes
  node_below = ltb-true _ _ (rw (nodes_in counts rows) at (passes counts rows (λ t. ltb t.node.0 (case_in counts rows).nodes) r.sound.targets_known i h))

  pair_below : target_pair counts rows i < counts.shapes * counts.nodes
  unfolding target_pair
  pair_below = digits_lt shape_below node_below

  module _ {target : Target} (e : target ≡ target_in rows i) where
    pair_is : target.shape.0 * counts.nodes + target.node.0 ≡ target_pair counts rows i
    unfolding target_pair
    pair_is = rw e

    pub target_row_fits : Fits w64 (target.shape.0 * counts.nodes)
    target_row_fits = omega (arith, pair_is, pair_below, r.fit)

    pub pair_fits : Fits w64 (target.shape.0 * counts.nodes + target.node.0)
    pair_fits = omega (arith, pair_is, pair_below, r.fit)

    pub target_pair_in : (values : List ℕ) → counts.shapes * counts.nodes ≤ length values → target.shape.0 * counts.nodes + target.node.0 < length values
    target_pair_in values room = omega (arith, pair_is, pair_below)

    pub target_pair_value : (values : List ℕ) → get_or values (target.shape.0 * counts.nodes + target.node.0) 0 ≡ get_or values (target_pair counts rows i) 0
    target_pair_value values = rw pair_is

-- The value of target i
abbrev pub verdict_at : Counts → List ℕ → List ℕ → ℕ → ℕ
verdict_at counts rows values i = get_or values (target_pair counts rows i) 0

verdicts_are : (counts : Counts) (rows values : List ℕ) → target_values (case_in counts rows) values ≡ map (verdict_at counts rows values) (up_to counts.targets)
unfolding target_values pair_of target_pair
verdicts_are counts rows values = rw (targets_in counts rows, nodes_in counts rows) (map-map _ (target_in rows) (up_to counts.targets))

-- The verdicts of all targets were put
pub verdicts_written : {counts : Counts} {rows values t t' : List ℕ} {i : ℕ} → counts.targets ≤ length t → i ≤ counts.targets → counts.targets ≤ i
    → Put (verdict_at counts rows values) 0 i t t' → VerdictsWritten counts rows values t t'
verdicts_written {counts} {rows} {values} {i = i} room h l p =
    let e : i ≡ counts.targets = omega arith in
    record { left = rw (verdicts_are counts rows values) (put_all room (rw e at p)) }

-- The value of shape s at node a
abbrev pub node_value_at : Counts → ℕ → List ℕ → List ℕ → ℕ → ℕ
node_value_at counts a valid possible s = value_in (size_of counts) valid possible (s * counts.nodes + a)

-- m of the first i numbers of f are v
pub record Tallied (f : ℕ → ℕ) (v i m : ℕ) : Type 0 where
  pub right : m ≡ tally v (map f (up_to i))

module _ {f : ℕ → ℕ} {v : ℕ} where
  pub tallied_none : Tallied f v 0 0
  unfolding up_to from count tally
  tallied_none = record { right = refl }

  tallied_small : {i m : ℕ} → Tallied f v i m → m ≤ i
  unfolding tally
  tallied_small {i} r = omega (arith, r.right, count_le_length (map f (up_to i)) (λ y. eqb y v), length_made f i)

  module _ {i m one : ℕ} (o : one ≡ cond (eqb (f i) v) 1 0) where
    pub tallied_more : Tallied f v i m → Tallied f v (i + 1) (m + one)
    unfolding tally count
    tallied_more r =
        record { right = rw (made_more f f i (f i) (λ k l. refl) refl, count_append (map f (up_to i)) (f i ∷ []) (λ y. eqb y v), o, r.right) (omega arith) }

    pub tallied_fits : (n : ℕ) → Fits w64 n → i < n → Tallied f v i m → Fits w64 (m + one)
    tallied_fits n g h r = omega (arith, tallied_small (tallied_more r))

-- the first n bytes of a table are n such numbers
first_bytes : (bytes : List ℕ) (n : ℕ) → n ≤ length bytes → map (λ k. get_or bytes k 0) (up_to n) ≡ take n bytes
first_bytes bytes n h =
    ext_get_or 0 _ (take n bytes) (length_made _ n ∙ sym (length-take-le n bytes h))
    (λ k l. let b : k < n = omega (arith, length_made (λ k. get_or bytes k 0) n) in get_d_made _ n k 0 b ∙ sym (get_or-take n bytes k 0 b))

pub bytes_tallied : (bytes : List ℕ) {v n i m : ℕ} → n ≤ length bytes → i ≤ n → n ≤ i → Tallied (λ k. get_or bytes k 0) v i m → m ≡ tally v (take n bytes)
bytes_tallied bytes {v} {n} {i} room h l r =
    let e : i ≡ n = omega arith in
    rw e at r.right ∙ ap (tally v) (first_bytes bytes n room)

-- A tally as the library counts: the entries of a list that are v
counted : (v : ℕ) (f : ℕ → ℕ) (l : List ℕ) → tally v (map f l) ≡ count_by (λ x. eqb (f x) v) l
unfolding tally count
counted v f =
    is_count_by (λ l. tally v (map f l)) (λ x. eqb (f x) v) refl
    (λ x l. by_test (eqb (f x) v) (λ e. rw e (omega arith)) (λ e. rw e (omega arith)))

-- and the numbers below n that f takes to v
numbers_from : (i n : ℕ) → range_with_len i n ≡ from i n
unfolding from
numbers_from i zero = refl
numbers_from i (suc n) = ap (λ l. i ∷ l) (rw add-one (numbers_from (suc i) n))

pub tally_made : (f : ℕ → ℕ) (v n : ℕ) {m : ℕ} → m ≡ length (filter (λ i. eqb (f i) v) (range_with_len 0 n)) → m ≡ tally v (map f (up_to n))
unfolding up_to
tally_made f v n e = e ∙ length-filter (λ i. eqb (f i) v) (range_with_len 0 n) ∙ sym (counted v f (range_with_len 0 n)) ∙ ap (λ l. tally v (map f l)) (numbers_from 0 n)

pub targets_tallied : (counts : Counts) (rows values : List ℕ) (v : ℕ) {m : ℕ}
    → m ≡ length (filter (λ i. eqb (verdict_at counts rows values i) v) (range_with_len 0 counts.targets)) → m ≡ tally v (target_values (case_in counts rows) values)
targets_tallied counts rows values v e = tally_made (verdict_at counts rows values) v counts.targets e ∙ ap (tally v) (sym (verdicts_are counts rows values))

pub node_tallied : (counts : Counts) (a : ℕ) (valid possible : List ℕ) (v : ℕ) {m : ℕ}
    → m ≡ length (filter (λ s. eqb (node_value_at counts a valid possible s) v) (range_with_len 0 counts.shapes)) → m ≡ tally v (node_values counts a valid possible)
unfolding node_values
node_tallied counts a valid possible v e = tally_made (node_value_at counts a valid possible) v counts.shapes e
