-- The old code over bytes in: it takes exactly the supported assignments, all that the newer code takes, and the ring of document 01, which
-- the newer code refuses, whatever the levels. Document 02, point 6. Assumes nothing.
use Prim.Native.Nat.{ℕ, ◌≤◌}
use mathlib.Core.Path.{◌≡◌, ap}
use mathlib.Core.Logic.Iff
use mathlib.Core.Logic.{◌↔◌}
use mathlib.Core.Bool.{true, and-eq-true_iff}
use mathlib.Core.List.{List}
use lib.ListN.{length}
use Rattle.fixpoint.specs.Lists.{all, up_to}
use Rattle.semantics.specs.Levels.{accepted, justified_at}
use Rattle.semantics.specs.OldCode.{old_refusal, old_answer}
use Rattle.semantics.specs.Operations.{case_of, checked, check_answer, levels_in}
use Rattle.semantics.specs.Values.{pair_count, supported}
use Rattle.semantics.proofs.Levels.{accepted_stable}
use Rattle.semantics.proofs.OldCode.{old_takes_supported}
use Rattle.semantics.proofs.Refusing.{or_else_none}
use Rattle.semantics.specs.declared.answers.CheckedOld.{CheckedOld}
use Rattle.theorems.specs.Demands.{Reads}
use Rattle.theorems.specs.Samples.{ring, vouched, requested_samples}
use Rattle.theorems.proofs.Demands.{case_sound, check_none}
use Rattle.theorems.proofs.Samples.{requested_samples_lem}

-- nothing is refused exactly where the input reads, the table is long enough and what it holds is supported
pub old_accepts_exactly : (s vt : List ℕ)
    → ((old_answer s vt).number ≡ 0) ↔ (Reads s × ((pair_count (case_of s) ≤ length vt) × (supported (case_of s) vt ≡ true)))
unfolding old_answer checked old_refusal
old_accepts_exactly s vt = or_else_none _ _ Iff.rfl (old_takes_supported (case_of s) vt)

-- "An assignment that passes the newer code also passes the old one"
pub newer_passes_older : (s vt lt : List ℕ) → (check_answer s vt lt).number ≡ 0 → (old_answer s vt).number ≡ 0
unfolding accepted
newer_passes_older s vt lt h =
    let c = case_of s in
    let n = (check_none s vt lt).0 h in
    let whole = (and-eq-true_iff (supported c vt) (all (up_to (pair_count c)) (justified_at c vt (levels_in (pair_count c) lt)))).0 n.1.1.1 in
    (old_accepts_exactly s vt).1 (n.0, (n.1.0, whole.0))

-- "and the ring of document 01 shows that the converse fails": the old code takes the proposal, and the newer code refuses it,
-- whatever the level table
pub converse_fails : ((old_answer ring vouched).number ≡ 0) × ((lt : List ℕ) → (check_answer ring vouched lt).number ≡ 0 → ⊥)
unfolding requested_samples
converse_fails = (
  ap (λ (a : CheckedOld). a.number) requested_samples_lem.0,
  λ lt h. requested_samples_lem.1.0
      (accepted_stable (case_of ring) (case_sound ring) vouched (levels_in (pair_count (case_of ring)) lt) ((check_none ring vouched lt).0 h).1.1.1),
)
