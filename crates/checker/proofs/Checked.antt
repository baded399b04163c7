-- Checking as a whole: one pass for 14 and one for 15 find the first pair with either. Assumes nothing.
use Prim.Native.Nat.{ℕ, ◌*◌, ◌≤◌, ◌<◌}
use native.Mathlib.Omega.{arith}
use mathlib.Core.Path.{◌≡◌, sym, ap, ◌∙◌}
use mathlib.Core.Logic.{◌⊎◌, inl, inr, ⊎_elim}
use mathlib.Core.Bool.{cond}
use mathlib.Core.List.{List}
use lib.Dec.{eqb}
use borrow.Author.Tests.{ne_eqb}
use Rattle.fixpoint.specs.Lists.{up_to}
use Rattle.cases.specs.Faults.{Refusal, no_refusal}
use Rattle.cases.specs.Rows.{case_in}
use Rattle.cases.specs.declared.counts.Counts.{Counts}
use Rattle.fillers.specs.CaseTables.{Tables}
use Rattle.fillers.proofs.InTables.{pair_count_is}
use Rattle.semantics.specs.Operations.{or_else, first_of, levels_in, pair_fault}
use Rattle.semantics.specs.Values.{pair_count, supported_at}
use Rattle.semantics.proofs.Refusing.{zero_cases, or_else_next, or_else_this, unless_none, unless_place, first_refuses, Well, well_first, well_all, well_of}
use Rattle.support.specs.Proposals.{Proposed, unsupported}
use Rattle.justifying.specs.Justifying.{LevelsChecked}
use Rattle.semantics.specs.OldCode.{support_fault}

-- ---- Two passes for one

-- u is what a pass for f over n finds, and m the place where it ends
pub record PassEnds (f : ℕ → Refusal) (n m : ℕ) (u : Refusal) : Type 0 where
  pub most : m ≤ n
  pub well : Well f m
  pub ends : ((m ≡ n) × (u ≡ no_refusal)) ⊎ ((m < n) × (u ≡ f m) × ((f m).number ≡ 0 → ⊥))

pass_ends : (f : ℕ → Refusal) {n m : ℕ} {u : Refusal} → ((k : ℕ) → ((f k).number ≡ 0 → ⊥) → (f k).place ≡ k) → u ≡ first_of (up_to n) f → m ≡ cond (eqb u.number 0) n u.place
    → PassEnds f n m u
pass_ends f {n} {m} {u} placed e i =
    ⊎_elim
    (λ (z : u.number ≡ 0). let well = well_of {f = f} (rw e at z) in
    let all : m ≡ n = i ∙ rw z in
    record { most = omega arith; well = rw all well; ends = inl (all, e ∙ sym (well_all (omega arith) well)) })
    (λ (z : u.number ≡ 0 → ⊥). let r = first_refuses n f (rw e at z) in
    let at : m ≡ r.k = i ∙ rw (ne_eqb u.number 0 z) (rw (e, r.is) (placed r.k r.refuses)) in
    record {
      most = omega (arith, r.below);
      well = rw at (record { each = λ k h. r.earlier k (omega arith) h });
      ends = inr (omega (arith, r.below), rw at (e ∙ r.is), rw at r.refuses);
    })
    (zero_cases u.number)

-- what a pass for g up to there finds, else u, is what one pass for both finds
two_passes : (f g : ℕ → Refusal) {n m : ℕ} {u : Refusal} → PassEnds f n m u → or_else (first_of (up_to m) g) u ≡ first_of (up_to n) (λ k. or_else (f k) (g k))
two_passes f g {n} {m} {u} p =
    let x = first_of (up_to m) g in
    let both : (i : ℕ) → i ≤ m → Well g i → Well (λ k. or_else (f k) (g k)) i =
    λ i h w. record { each = λ k l. rw (or_else_next (f k) (g k) (p.well.each k (omega arith))) (w.each k l) } in
    ⊎_elim
    (λ z. or_else_next x u z
    ∙ ⊎_elim
    (λ end. end.1 ∙ well_all (omega (arith, end.0)) (both m (omega arith) (well_of z)))
    (λ end. well_first (end.1 ∙ sym (or_else_this (f m) (g m) end.2)) end.0 (λ o. end.2 (rw end.1 at o)) (both m (omega arith) (well_of z)))
    p.ends)
    (λ z. let r = first_refuses m g z in
    or_else_this x u z
    ∙ well_first (r.is ∙ sym (or_else_next (f r.k) (g r.k) (p.well.each r.k r.below))) (omega (arith, r.below, p.most)) z
    (both r.k (omega (arith, r.below)) (record { each = λ k h. r.earlier k (omega arith) h })))
    (zero_cases x.number)

-- ---- The faults of a proposal

module _ {counts : Counts} {rows sets : List ℕ} (t : Tables counts rows sets) (values : List ℕ) where
  -- the pass for 14 ends at its first refusal
  supported_ends : {m : ℕ} {u : Refusal} → u ≡ support_fault (case_in counts rows) values → m ≡ cond (eqb u.number 0) (counts.shapes * counts.nodes) u.place
      → PassEnds (unsupported counts rows values) (counts.shapes * counts.nodes) m u
  supported_ends e i =
      pass_ends (unsupported counts rows values) (λ k n. (unless_place (supported_at (case_in counts rows) values k) 14 k n).1) (rw (pair_count_is t) at e) i

  pub supported_few : {m : ℕ} {u : Refusal} → u ≡ support_fault (case_in counts rows) values → m ≡ cond (eqb u.number 0) (counts.shapes * counts.nodes) u.place
      → m ≤ counts.shapes * counts.nodes
  supported_few e i = (supported_ends e i).most

  -- what the two passes find
  module _ {valid possible levels : List ℕ} {m : ℕ} {u x : Refusal} (p : Proposed counts values valid possible) (f : u ≡ support_fault (case_in counts rows) values)
      (i : m ≡ cond (eqb u.number 0) (counts.shapes * counts.nodes) u.place) (g : LevelsChecked counts rows valid possible levels m x) where
    both_checked : or_else x u ≡ pair_fault (case_in counts rows) values (levels_in (pair_count (case_in counts rows)) levels)
    unfolding pair_fault
    both_checked =
        let ends = supported_ends f i in
        ap (λ y. or_else y u) (g.right values (record { proposed = p; each = λ k h. (unless_none (supported_at (case_in counts rows) values k) 14 k (omega arith)).0 (ends.well.each k h) }))
        ∙ two_passes (unsupported counts rows values) _ ends
        ∙ rw (← pair_count_is t)

    pub pairs_refused : (x.number ≡ 0 → ⊥) → x ≡ pair_fault (case_in counts rows) values (levels_in (pair_count (case_in counts rows)) levels)
    pairs_refused n = sym (or_else_this x u n) ∙ both_checked

    pub pairs_checked : x.number ≡ 0 → u ≡ pair_fault (case_in counts rows) values (levels_in (pair_count (case_in counts rows)) levels)
    pairs_checked z = sym (or_else_next x u z) ∙ both_checked
