-- The old code takes exactly the supported assignments. Document 02, point 6. Assumes nothing.
use Prim.Native.Nat.{ℕ, ◌<◌, ◌≤◌}
use native.Mathlib.Omega.{arith}
use mathlib.Core.Path.{◌≡◌}
use mathlib.Core.Logic.Iff
use mathlib.Core.Logic.{◌↔◌}
use mathlib.Core.Bool.{true, and-eq-true_iff}
use mathlib.Core.List.{List}
use lib.ListN.{length}
use Rattle.fixpoint.specs.Lists.{all, up_to}
use Rattle.fixpoint.proofs.Lists.{all_up_to_in, all_up_to_of}
use Rattle.cases.specs.Case.{Case}
use Rattle.semantics.specs.OldCode.{old_fault}
use Rattle.semantics.specs.Operations.{value_fault}
use Rattle.semantics.specs.Values.{pair_count, is_value, valued, supported_at, supported}
use Rattle.semantics.proofs.Refusing.{or_else_none, unless_none, refuse_none, short_none, first_none}

supported_each : (c : Case) (v : List ℕ)
    → (((k : ℕ) → k < pair_count c → is_value v k ≡ true) × ((k : ℕ) → k < pair_count c → supported_at c v k ≡ true)) ↔ (supported c v ≡ true)
unfolding supported valued
supported_each c v =
    let N = pair_count c in
    let both = and-eq-true_iff (valued c v) (all (up_to N) (supported_at c v)) in (
      λ p. both.1 (all_up_to_of N (is_value v) p.0, all_up_to_of N (supported_at c v) p.1),
      λ e. (all_up_to_in N (is_value v) (both.0 e).0, all_up_to_in N (supported_at c v) (both.0 e).1),
    )

pub old_takes_supported : (c : Case) (v : List ℕ) → ((old_fault c v).number ≡ 0) ↔ ((pair_count c ≤ length v) × (supported c v ≡ true))
unfolding old_fault value_fault
old_takes_supported c v =
    let N = pair_count c in
    or_else_none _ _ (short_none 10 N v (omega arith))
    (Iff.trans
    (or_else_none _ _ (first_none N _ (λ k h. refuse_none v k)) (first_none N _ (λ k h. unless_none (supported_at c v k) 14 k (omega arith))))
    (supported_each c v))
