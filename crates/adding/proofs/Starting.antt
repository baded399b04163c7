-- What no candidate touches is the same with every selection, and is made once. Assumes nothing.
use Prim.Native.Nat.{ℕ, ◌+◌, ◌*◌, ◌≤◌, ◌<◌}
use native.Mathlib.Omega.{arith}
use mathlib.Core.Path.{◌≡◌, refl, sym, ap, ◌∙◌}
use mathlib.Core.Bool.{Bool, true, false, not, ◌&&◌, ◌||◌, false≢true, and-eq-true_iff, or-false}
use mathlib.Core.List.{List, [], ◌∷◌}
use lib.ListN.{length, get_or, take}
use lib.Seq.{get_or-take, length-take-le}
use lib.Dec.{eqb}
use borrow.Author.Tests.{not-true}
use Rattle.bitset.specs.Words.{bit, Without}
use Rattle.cases.specs.Case.{Case, edge_is, path_rule, paths_of_path}
use Rattle.cases.specs.Rows.{path_in, case_in, CaseIn, Full}
use Rattle.cases.specs.declared.command.PathRule.{PathRule}
use Rattle.cases.specs.declared.command.PathRule.TheVariants.{Forward, Backward, Union, Sequence, Star}
use Rattle.cases.specs.declared.counts.Counts.{Counts}
use Rattle.cases.proofs.InRows.{paths_in, path_rule_in}
use Rattle.fixpoint.specs.Lists.{up_to, any, keep}
use Rattle.fixpoint.proofs.Lists.{by_test, any_map, any_mono}
use Rattle.kernel.specs.Rows.{SetsLaid, LinksLaid}
use Rattle.lookups.specs.Edges.{set_words}
use Rattle.semantics.specs.Adding.{candidate_at, candidate_count, chooses, chosen, with_links}
use Rattle.semantics.specs.Parking.{with_edges}
use Rattle.semantics.specs.Paths.{linked, fills}
use Rattle.semantics.proofs.Adding.{linked_with, chosen_laid, rule_spared, Spared, fills_spared}
use Rattle.adding.specs.Candidates.{of_property}
use Rattle.adding.specs.Choosing.{Behind}
use Rattle.adding.specs.Searching.{BaseLaid}
use Rattle.adding.specs.Touching.{by_property, touches, TouchedBelow}

-- ---- Links of a property that no candidate has

kept_none : {A : Type 0} (l : List A) (k t : A → Bool) → any l t ≡ false → any (keep l k) t ≡ false
unfolding any keep
kept_none [] k t e = refl
kept_none (x ∷ l) k t e =
    by_test (t x)
    (λ y. absurd (false≢true (sym e ∙ rw y)))
    (λ n.
    let rest : any (keep l k) t ≡ false = kept_none l k t (rw n at e) in
    by_test (k x) (λ y. rw (y, n) rest) (λ m. rw m rest))

none_added : (list : List ℕ) (selection q a b : ℕ) → of_property list q ≡ false → any (chosen list selection) (edge_is 0x02 q a b) ≡ false
unfolding chosen of_property edge_is
none_added list selection q a b e =
    let is : ℕ → Bool = λ i. edge_is 0x02 q a b (candidate_at list i) in
    let of : ℕ → Bool = λ i. eqb (candidate_at list i).property.0 q in
    let part : (i : ℕ) → is i ≡ true → of i ≡ true =
    λ i y. ((and-eq-true_iff (of i) _).0 ((and-eq-true_iff (eqb (candidate_at list i).code 0x02) _).0 y).1).0 in
    any_map (candidate_at list) (keep (up_to (candidate_count list)) (chooses selection)) (edge_is 0x02 q a b)
    ∙ kept_none (up_to (candidate_count list)) (chooses selection) is
    (by_test (any (up_to (candidate_count list)) is)
    (λ y. absurd (false≢true (sym e ∙ any_mono (up_to (candidate_count list)) is of part y)))
    (λ n. n))

-- ---- Paths that no candidate touches

two_not : (a b : Bool) → (a || (b || false)) ≡ false → (not a && not b) ≡ true
two_not true b e = absurd (false≢true (sym e))
two_not false true e = absurd (false≢true (sym e))
two_not false false e = refl

rule_untouched : (list : List ℕ) (touched : ℕ) (rule : PathRule) → touches list touched rule ≡ false
    → rule_spared (λ q. not (of_property list q)) (λ p. not (bit touched p)) rule ≡ true
unfolding touches by_property rule_spared paths_of_path any
rule_untouched list touched (Forward q) e = rw (sym (or-false (of_property list q.0)) ∙ e)
rule_untouched list touched (Backward q) e = rw (sym (or-false (of_property list q.0)) ∙ e)
rule_untouched list touched (Union p q) e = two_not (bit touched p.0) (bit touched q.0) e
rule_untouched list touched (Sequence p q) e = two_not (bit touched p.0) (bit touched q.0) e
rule_untouched list touched (Star p) e = rw (sym (or-false (bit touched p.0)) ∙ e)

module _ {counts : Counts} {slice list : List ℕ} {touched : ℕ} (t : TouchedBelow counts slice list counts.paths touched) (selection : ℕ) where
  abbrev base : Case
  base = case_in counts slice

  spared_with : Spared (with_links base (chosen list selection)) base (λ q. not (of_property list q)) (λ p. not (bit touched p))
  unfolding with_links with_edges path_rule
  spared_with = record {
    nodes = refl;
    paths = refl;
    links = λ q a b y.
        linked_with base (chosen list selection) (chosen_laid list selection) q a b
        ∙ ap (λ x. linked base q a b || x) (none_added list selection q a b (not-true (of_property list q) y)) ∙ or-false (linked base q a b);
    each = λ p h y.
        let below : p < counts.paths = omega (arith, paths_in counts slice) in
        rw (path_rule_in counts slice p below) (rule_untouched list touched (path_in slice p) (sym (t.bits p below) ∙ not-true (bit touched p) y));
  }

  fills_with : (p a b : ℕ) → bit touched p ≡ false → fills (with_links base (chosen list selection)) p a b ≡ fills base p a b
  fills_with p a b n = fills_spared spared_with p (ap not n) a b

-- ---- Rows and tables before the first selection

module _ {slice : List ℕ} (f : Full slice) where
  pub copied_long : 5360 ≡ length (take 5360 slice)
  copied_long = sym (length-take-le 5360 slice f.fits)

  pub behind_copied : {rows : List ℕ} → rows ≡ take 5360 slice → Behind slice rows
  behind_copied e =
      let kept : (j : ℕ) → j < 5360 → get_or (take 5360 slice) j 0 ≡ get_or slice j 0 = λ j h. get_or-take 5360 slice j 0 h in
      rw e (record {
        others = λ i l m. rw (kept (4 * i) (omega arith), kept (4 * i + 1) (omega arith), kept (4 * i + 2) (omega arith), kept (4 * i + 3) (omega arith));
        full = record { fits = omega (arith, copied_long) };
      })

pub base_laid : {counts : Counts} {slice list tables tables' tables'' : List ℕ} {made touched held : ℕ} → CaseIn counts slice → 769 + set_words counts ≤ length tables
    → SetsLaid counts slice 0 tables made tables' → LinksLaid counts slice tables' tables'' → TouchedBelow counts slice list counts.paths touched
    → Without made touched held → BaseLaid counts slice list held tables''
base_laid {counts} {slice} {made = made} {touched} {held} c room u l t o =
    let both : (p : ℕ) → p < counts.paths → bit held p ≡ true → (bit made p ≡ true) × (not (bit touched p) ≡ true) =
    λ p h y. (and-eq-true_iff (bit made p) (not (bit touched p))).0 (sym (o.bits p (omega (arith, c.fit.paths_fit))) ∙ y) in
    record {
      spared = record { same = λ selection p a b h y. fills_with t selection p a b (not-true (bit touched p) (both p h y).1) };
      room = omega (arith, room, u.long, l.long);
      linked = l.linked;
      right = rw l.sets_kept (record { members = λ p a b h y. u.held.members p a b h (both p (omega (arith, paths_in counts slice)) y).0 });
    }
