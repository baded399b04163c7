-- Parked edges: everything above a lookup depends on the edges by what the lookup answers, and what parking does to that. Document 02, point 4.
-- Assumes nothing.
use Prim.Native.Nat.{ℕ}
use mathlib.Core.Path.{◌≡◌, refl, sym, ap, ◌∙◌}
use mathlib.Core.Bool.{Bool, true, false, ◌&&◌, ◌||◌, and-eq-true_iff, and-false, and-true, or-false, false≢true}
use mathlib.Core.List.{List, [], ◌∷◌, ◌++◌}
use lib.Dec.{eqb}
use borrow.Author.Tests.{eqb-true}
use Rattle.fixpoint.specs.Lists.{any, all}
use Rattle.fixpoint.proofs.Agreeing.{alike_everywhere}
use Rattle.fixpoint.proofs.Lists.{by_test, any_append}
use Rattle.cases.specs.Case.{Case, edge_is, shape_rule, references}
use Rattle.cases.specs.Sound.{recorded, Recorded}
use Rattle.cases.specs.declared.command.Edge.{Edge}
use Rattle.semantics.specs.Parking.{with_edges, linked_before, Alike}
use Rattle.semantics.specs.Paths.{linked}
use Rattle.semantics.specs.Solving.{solved_t, solved_p, rounds, values_of, solved_values, greatest_level, levels_of, solved_levels, target_values, verdicts}
use Rattle.semantics.specs.Stability.{next_set}
use Rattle.semantics.specs.Values.{pair_count, pair_of}
use Rattle.semantics.proofs.AgreeingCases.{every, every_passes, AgreeingOn, value_alike, fills_alike, sames_alike, alike_at, next_alike}
use Rattle.semantics.proofs.Kernel.{rule_system}

-- ---- "What one property's lookup answers changes, and with it each path, each same and each value above."

module _ (c : Case) (edges : List Edge) (lookup : (p a b : ℕ) → linked c p a b ≡ linked (with_edges c edges) p a b) where
  -- the two cases agree on all of these
  agreeing : AgreeingOn c (with_edges c edges) every every
  unfolding with_edges shape_rule
  agreeing = record {
    nodes = refl;
    paths = refl;
    shape_count = refl;
    linked_from = λ p a b h. lookup p a b;
    linked_to = λ p a b h. lookup p a b;
    ends = λ p a b h. refl;
    rules = λ s h e. refl;
    referred = λ s h e. every_passes (references (shape_rule c s));
  }

  next_same : next_set c ≡ next_set (with_edges c edges)
  unfolding with_edges pair_count
  next_same = alike_everywhere (λ k. refl) (λ X Y. (rule_system c).sized X Y ∙ sym ((rule_system (with_edges c edges)).sized X Y)) (next_alike agreeing)

  pub alike : Alike c (with_edges c edges)
  unfolding with_edges pair_count pair_of solved_t solved_p rounds values_of solved_values greatest_level levels_of solved_levels target_values verdicts
  alike = record {
    path = λ p a b. (fills_alike agreeing p).answers a b refl;
    same = λ p q a. sames_alike agreeing p q a refl;
    value = λ v r a. value_alike (alike_at agreeing {t = every} (λ b h l. refl) a refl refl) v v r (every_passes (references r)) (λ s b h e. refl);
    next = next_same;
    values = rw next_same;
    levels = rw next_same;
    round_count = rw next_same;
    targets = rw next_same;
  }

-- ---- What parking does to a lookup

-- "A parked edge gives no fillers"
pub parked_gives_none : (c : Case) (p a b : ℕ) → any c.edges (edge_is 0x03 p a b) ≡ true → linked c p a b ≡ false
unfolding linked
parked_gives_none c p a b h = rw h (and-false (any c.edges (edge_is 0x02 p a b)))

-- an edge command that is one with these operands
pub edge_operands : (code p a b : ℕ) (e : Edge) → edge_is code p a b e ≡ true
    → (e.code ≡ code) × (e.property.0 ≡ p) × (e.subject.0 ≡ a) × (e.object.0 ≡ b)
unfolding edge_is
edge_operands code p a b e h =
    let ends = eqb e.subject.0 a && eqb e.object.0 b in
    let first = (and-eq-true_iff (eqb e.code code) (eqb e.property.0 p && ends)).0 h in
    let second = (and-eq-true_iff (eqb e.property.0 p) ends).0 first.1 in
    let third = (and-eq-true_iff (eqb e.subject.0 a) (eqb e.object.0 b)).0 second.1 in (
      eqb-true e.code code first.0,
      eqb-true e.property.0 p second.0,
      eqb-true e.subject.0 a third.0,
      eqb-true e.object.0 b third.1,
    )

swap : (x y z : Bool) → x || (y || z) ≡ y || (x || z)
swap true true z = refl
swap true false z = refl
swap false y z = refl

-- an edge command among others, which park its edge
module _ (before after : List Edge) (e : Edge) (parked : any (before ++ after) (edge_is 0x03 e.property.0 e.subject.0 e.object.0) ≡ true) where
  any_among : (t : Edge → Bool) → any (before ++ (e ∷ after)) t ≡ (t e || any (before ++ after) t)
  unfolding any
  any_among t = any_append before (e ∷ after) t ∙ swap (any before t) (t e) (any after t) ∙ ap (λ x. t e || x) (sym (any_append before after t))

  parked_at : (code p a b : ℕ) → edge_is code p a b e ≡ true → any (before ++ after) (edge_is 0x03 p a b) ≡ true
  parked_at code p a b h =
      let o = edge_operands code p a b e h in
      rw (← o.1, ← o.2, ← o.3) parked

  -- it adds nothing to those that park
  parks_already : (p a b : ℕ) → any (before ++ (e ∷ after)) (edge_is 0x03 p a b) ≡ any (before ++ after) (edge_is 0x03 p a b)
  parks_already p a b =
      any_among (edge_is 0x03 p a b)
      ∙ by_test (edge_is 0x03 p a b e)
      (λ h. rw (h, parked_at 0x03 p a b h))
      (λ h. rw h)

  module _ (c : Case) where
    -- and where it lays an edge, that is parked
    lookup_kept : (p a b : ℕ) → linked (with_edges c (before ++ after)) p a b ≡ linked (with_edges (with_edges c (before ++ after)) (before ++ (e ∷ after))) p a b
    unfolding linked with_edges
    lookup_kept p a b =
        let laid : Bool = any (before ++ after) (edge_is 0x02 p a b) in
        let parks : Bool = any (before ++ after) (edge_is 0x03 p a b) in
        rw (any_among (edge_is 0x02 p a b), parks_already p a b)
        (by_test (edge_is 0x02 p a b e)
        (λ h. rw (h, parked_at 0x02 p a b h) (and-false laid))
        (λ h. rw h))

    -- "Parking twice gives the same fillers as once, a later 02 doesn't bring the edge back": one 02 or 03 more of a parked edge, wherever it
    -- stands, leaves all as it was
    pub parked_stays : Alike (with_edges c (before ++ after)) (with_edges c (before ++ (e ∷ after)))
    unfolding with_edges
    parked_stays = alike (with_edges c (before ++ after)) (before ++ (e ∷ after)) lookup_kept

-- ---- "A case without 03 solves as before."

laid_only : (before l : List Edge) → recorded before l ≡ true → any l (λ e. eqb e.code 0x03) ≡ false → all l (λ e. eqb e.code 0x02) ≡ true
unfolding recorded any all
laid_only before [] h n = refl
laid_only before (e ∷ l) h n =
    by_test (eqb e.code 0x03)
    (λ x. absurd (false≢true (sym (rw x at n))))
    (λ x.
    let laid_here = rw x at h in
    let later = rw x at n in
    let both = (and-eq-true_iff (eqb e.code 0x02 || false) (recorded (before ++ (e ∷ [])) l)).0 laid_here in
    let two : eqb e.code 0x02 ≡ true = sym (or-false (eqb e.code 0x02)) ∙ both.0 in
    rw two (laid_only (before ++ (e ∷ [])) l both.1 later))

pub any_laid : (l : List Edge) (p a b : ℕ) → all l (λ e. eqb e.code 0x02) ≡ true
    → (any l (edge_is 0x02 p a b) ≡ any l (λ e. eqb e.property.0 p && (eqb e.subject.0 a && eqb e.object.0 b))) × (any l (edge_is 0x03 p a b) ≡ false)
unfolding any all edge_is
any_laid [] p a b h = (refl, refl)
any_laid (e ∷ l) p a b h =
    let both = (and-eq-true_iff (eqb e.code 0x02) (all l (λ e. eqb e.code 0x02))).0 h in
    let three : eqb e.code 0x03 ≡ false = ap (λ n. eqb n 0x03) (eqb-true e.code 0x02 both.0) in
    let rest = any_laid l p a b both.1 in
    (rw (both.0, rest.0), rw (three, rest.1))

pub unparked_as_before : (c : Case) → Recorded c → any c.edges (λ e. eqb e.code 0x03) ≡ false → linked c ≡ linked_before c
unfolding linked linked_before
unparked_as_before c k h =
    let laid = laid_only [] c.edges k.edges_recorded h in
    let at : (p a b : ℕ) → linked c p a b ≡ linked_before c p a b =
    λ p a b. rw ((any_laid c.edges p a b laid).0, (any_laid c.edges p a b laid).1) (and-true (linked_before c p a b)) in
    λ i p a b. at p a b i
