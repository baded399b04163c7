-- Ranking over bytes: each byte is the most nots on a walk, and refusal 17 names the lowest shape that depends on its own denial.
-- Assumes nothing.
use Prim.Native.Nat.{ℕ, ◌≤◌, ◌<◌}
use native.Mathlib.Omega.{arith}
use mathlib.Core.Path.{◌≡◌, refl, ap, ◌∙◌}
use mathlib.Core.Logic.Iff
use mathlib.Core.Logic.{◌↔◌}
use mathlib.Core.Bool.{Bool, true, false, not, false≢true}
use mathlib.Core.List.{List}
use lib.ListN.{length, get_or}
use borrow.Author.Tests.{not-false}
use Rattle.fixpoint.specs.Lists.{up_to}
use Rattle.fixpoint.proofs.Lists.{length_made, get_d_made}
use Rattle.cases.specs.Faults.{Refusal}
use Rattle.cases.specs.Case.{Case}
use Rattle.cases.specs.Reading.{outcome, is_reading_number}
use Rattle.encoding.proofs.RefusalNumbers.{reading_number}
use Rattle.semantics.specs.Denial.{OwnDenial, Undenied, own_denial, MostNots, stratum, strata}
use Rattle.semantics.specs.Operations.{first_of, refuse_unless, too_short, case_of, rank_refusal, rank_answer, rank_strata, ranked, rank_fault, denial_fault}
use Rattle.semantics.proofs.Denial.{own_denial_exactly, stratum_most}
use Rattle.semantics.proofs.Refusing.{or_else_none, or_else_later, unless_none, unless_place, short_none, short_small, first_none, first_refuses, written_none, written_at, written_refused}
use Rattle.theorems.specs.Demands.{Reads, StrataWritten, LowestDenied}
use Rattle.theorems.proofs.Demands.{case_sound}

-- the refusal of one shape
abbrev denial : Case → ℕ → Refusal
denial c k = refuse_unless (not (own_denial c k)) 17 k

not_exactly : (b : Bool) → (not b ≡ true) ↔ (b ≡ true → ⊥)
not_exactly true = (λ e. absurd (false≢true e), λ h. absurd (h refl))
not_exactly false = (λ e q. false≢true q, λ h. refl)

denial_none : (s : List ℕ) (k : ℕ) → k < length (case_of s).shapes → ((denial (case_of s) k).number ≡ 0) ↔ (OwnDenial (case_of s) k → ⊥)
denial_none s k h =
    let own = own_denial (case_of s) k in
    Iff.trans (unless_none (not own) 17 k (omega arith)) (Iff.trans (not_exactly own) (Iff.not (own_denial_exactly (case_of s) (case_sound s) k h)))

-- ranking refuses nothing exactly where the input reads, the table is long enough and no shape depends on its own denial
rank_none : (s table : List ℕ) → ((rank_answer s table).number ≡ 0) ↔ (Reads s × ((length (case_of s).shapes ≤ length table) × ((k : ℕ) → k < length (case_of s).shapes → OwnDenial (case_of s) k → ⊥)))
unfolding rank_answer ranked rank_refusal rank_fault denial_fault
rank_none s table =
    let S = length (case_of s).shapes in
    or_else_none _ _ Iff.rfl (or_else_none _ _ (short_none 16 S table (omega arith)) (first_none S (denial (case_of s)) (denial_none s)))

-- 17 is none of the other numbers of ranking
not_17 : (s : List ℕ) → (outcome s).refusal.number ≡ 17 → ⊥
not_17 s e = let h : is_reading_number 17 ≡ true = rw e at (reading_number s) in false≢true h

rank_17 : (s table : List ℕ) → (rank_refusal s table).number ≡ 17 → rank_refusal s table ≡ first_of (up_to (length (case_of s).shapes)) (denial (case_of s))
unfolding rank_refusal rank_fault denial_fault
rank_17 s table h =
    let S = length (case_of s).shapes in
    let later = or_else_later (outcome s).refusal _ 17 (not_17 s) h in
    later ∙ or_else_later (too_short 16 S table) _ 17 (λ e. omega (arith, short_small 16 S table)) (rw later at h)

-- So 17 comes from the first shape whose test fails, and its test is exactly the closed walk.
pub refusal_17_is_real : (s table : List ℕ) → (rank_answer s table).number ≡ 17 → LowestDenied s (rank_answer s table).place
unfolding rank_answer ranked
refusal_17_is_real s table h =
    let c = case_of s in
    let e = rank_17 s table h in
    let r = first_refuses (length c.shapes) (denial c) (λ z. omega (arith, ap (λ (r : Refusal). r.number) e)) in
    let p = unless_place (not (own_denial c r.k)) 17 r.k r.refuses in
    let q : (rank_refusal s table).place ≡ r.k = ap (λ (r : Refusal). r.place) (e ∙ r.is) ∙ p.1 in
    let own = own_denial_exactly c (case_sound s) in
    rw q (record {
      in_case = r.below;
      denied = (own r.k r.below).0 (not-false (own_denial c r.k) p.0);
      lowest = λ k b. (denial_none s k (omega arith)).0 (r.earlier k (omega arith) b);
    })

-- a fit case where no shape depends on its own denial, with a table long enough, is ranked
pub rank_refuses_no_fit_case : (s table : List ℕ) → Reads s → length (case_of s).shapes ≤ length table → Undenied (case_of s) → (rank_answer s table).number ≡ 0
rank_refuses_no_fit_case s table r h u = (rank_none s table).1 (r, (h, u.none))

-- a ranked case has no shape that depends on its own denial
pub ranked_undenied : (s table : List ℕ) → (rank_answer s table).number ≡ 0 → Undenied (case_of s)
ranked_undenied s table h = record { none = ((rank_none s table).0 h).1.1 }

-- each byte is the most nots on a walk from its shape
pub ranked_bytes : (s table : List ℕ) → (rank_answer s table).number ≡ 0 → (k : ℕ) → k < length (case_of s).shapes → MostNots (case_of s) k (get_or (rank_strata s table) k 0)
unfolding rank_answer ranked rank_strata strata
ranked_bytes s table h k hk =
    let c = case_of s in
    let S = length (case_of s).shapes in
    rw (written_at (rank_refusal s table) (strata c) table h k (omega (arith, length_made (stratum c) S)), get_d_made (stratum c) S k 0 hk)
    (stratum_most c (case_sound s) (ranked_undenied s table h) k hk)

-- a refused ranking writes nothing, any other the leading entries and no more
pub refused_rank_writes_nothing : (s table : List ℕ) → ((rank_answer s table).number ≡ 0 → ⊥) → rank_strata s table ≡ table
unfolding rank_answer ranked rank_strata
refused_rank_writes_nothing s table h = written_refused (rank_refusal s table) _ table h

length_strata : (c : Case) → length (strata c) ≡ length c.shapes
unfolding strata
length_strata c = length_made (stratum c) (length c.shapes)

pub rank_writes_leading : (s table : List ℕ) → (rank_answer s table).number ≡ 0 → StrataWritten s table
unfolding rank_answer ranked rank_strata
rank_writes_leading s table h =
    record { written = rw (← length_strata (case_of s)) (written_none (rank_refusal s table) (strata (case_of s)) table h) }
