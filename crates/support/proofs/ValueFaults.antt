-- 13 before what follows it, and the sets of values of which none is refused. Assumes nothing.
use Prim.Native.Nat.{ℕ, ◌+◌, ◌*◌, ◌≤◌, ◌<◌}
use native.Mathlib.Omega.{arith}
use mathlib.Core.Logic.{◌⊎◌, inl, inr}
use mathlib.Core.Path.{◌≡◌, refl, sym, ap, ◌∙◌}
use mathlib.Core.List.{List}
use lib.ListN.{length, get_or}
use borrow.Author.Tests.{leb-true}
use Rattle.cases.specs.Faults.{Refusal, no_refusal}
use Rattle.cases.specs.Rows.{case_in}
use Rattle.std.specs.Prelude.{Ok, Err}
use lib.Dec.{leb}
use Rattle.fixpoint.proofs.Lists.{by_test}
use Rattle.cases.specs.declared.refusals.Fault.TheVariants.{NoValue}
use Rattle.cases.specs.declared.counts.Counts.{Counts}
use Rattle.fillers.specs.CaseTables.{Tables}
use Rattle.fillers.proofs.InTables.{pair_count_is}
use Rattle.pairs.specs.Sets.{Threshold}
use Rattle.semantics.specs.Operations.{or_else, refuse, value_fault}
use Rattle.semantics.specs.Values.{byte_says, said_number, said_value_or_fault, is_value}
use Rattle.semantics.proofs.Refusing.{or_else_next, or_else_this, refuse_none, Well, well_more, well_first, well_of}
use Rattle.support.specs.Proposals.{value_fault_in, ProposedUnless}

-- 13 of a pair
abbrev pub unvalued : List ℕ → ℕ → Refusal
unvalued values k = refuse (said_number (byte_says (get_or values k 0))) k

-- where the bytes below k say values: the next does too, or is the first that doesn't
pub next_value : (values : List ℕ) {k n : ℕ} → k < n → Well (unvalued values) k
    → (said_value_or_fault (byte_says (get_or values k 0)) ≡ Ok (record { 0 = get_or values k 0 }) × Well (unvalued values) (k + 1))
    ⊎ (said_value_or_fault (byte_says (get_or values k 0)) ≡ Err NoValue × record { number = 13; place = k } ≡ value_fault_in values n)
unfolding byte_says refuse
next_value values {k} h v =
    by_test (leb (get_or values k 0) 2)
    (λ e. inl (rw e refl, well_more {r = no_refusal} (rw e refl) refl v))
    (λ e. inr (rw e refl, well_first (rw e refl) h (λ z. absurd (omega arith)) v))

-- without a fault of 13 every number is a value
pub proposed : {counts : Counts} {values valid possible : List ℕ} {r : Refusal} → Threshold counts values 2 valid → Threshold counts values 1 possible
    → counts.shapes * counts.nodes ≤ length values → r ≡ value_fault_in values (counts.shapes * counts.nodes) → ProposedUnless counts values valid possible r
unfolding is_value
proposed {values = values} v p l e = record {
  fault = e;
  proposed = λ z. record {
    there = l;
    valued = λ k h. leb-true (get_or values k 0) 2 ((refuse_none values k).0 ((well_of (rw e at z)).each k h));
    valid_set = v;
    possible_set = p;
  };
}

module _ {counts : Counts} {rows sets : List ℕ} (t : Tables counts rows sets) (values : List ℕ) where
  -- 13 comes before it
  module _ {valid possible : List ℕ} {r : Refusal} (p : ProposedUnless counts values valid possible r) where
    value_fault_is : r ≡ value_fault (case_in counts rows) values
    unfolding value_fault
    value_fault_is = p.fault ∙ ap (value_fault_in values) (sym (pair_count_is t))

    pub checked_first : (q : Refusal) → (r.number ≡ 0 → ⊥) → r ≡ or_else (value_fault (case_in counts rows) values) q
    checked_first q n = rw (← value_fault_is) (sym (or_else_this r q n))

    pub checked_next : {o q : Refusal} → r.number ≡ 0 → o ≡ q → o ≡ or_else (value_fault (case_in counts rows) values) q
    checked_next {q = q} z f = f ∙ rw (← value_fault_is) (sym (or_else_next r q z))
