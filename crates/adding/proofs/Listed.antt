-- Candidates in their bytes: where each stands, and of which properties they are. Assumes nothing.
use Prim.Native.Nat.{ℕ, zero, suc, ◌+◌, ◌<◌}
use native.Mathlib.Numerals.{add-one}
use mathlib.Core.Path.{◌≡◌, refl, ap, ◌∙◌}
use mathlib.Core.Bool.{Bool, ◌&&◌, ◌||◌}
use mathlib.Core.List.{List}
use lib.Dec.{eqb, ltb}
use Rattle.std.specs.List.{list_any, range_with_len}
use Rattle.cases.proofs.Faulted.{refused_some}
use Rattle.cases.specs.Refusals.{refusal_says}
use Rattle.cases.specs.declared.refusals.Refused.{Refused}
use Rattle.cases.specs.declared.command.Edge.{Edge}
use Rattle.cases.specs.declared.command.Row.{Row}
use Rattle.cases.specs.Faults.{no_refusal}
use Rattle.cases.specs.Format.{edge_of}
use Rattle.fixpoint.specs.Lists.{from, up_to, any}
use Rattle.semantics.specs.Adding.{candidate_at, candidate_count}
use Rattle.semantics.specs.Operations.{first_of, refuse_unless}
use Rattle.semantics.proofs.Refusing.{Well, well_more, well_first}
use Rattle.adding.specs.Candidates.{unknown_at, of_property}

-- a test of the n numbers from i on
any_from : (t : ℕ → Bool) (i n : ℕ) → list_any t (range_with_len i n) ≡ any (from i n) t
unfolding any from
any_from t i zero = refl
any_from t i (suc n) = ap (λ b. t i || b) (rw add-one (any_from t (suc i) n))

pub property_any : (list : List ℕ) (q : ℕ) {b : Bool} → b ≡ list_any (λ i. eqb (candidate_at list i).property.0 q) (range_with_len 0 (candidate_count list))
    → b ≡ of_property list q
unfolding of_property up_to
property_any list q e = e ∙ any_from _ 0 (candidate_count list)

-- whether a candidate that was read is known
module _ (list : List ℕ) (nodes i : ℕ) (row : Row) {edge : Edge} {known : Bool} (e : edge_of row ≡ candidate_at list i) (f : edge ≡ edge_of row)
    (g : known ≡ (ltb edge.subject.0 nodes && ltb edge.object.0 nodes)) where
  known_is : refuse_unless known 24 (i + 1) ≡ unknown_at list nodes i
  unfolding unknown_at
  known_is = ap (λ k. refuse_unless k 24 (i + 1)) (g ∙ ap (λ x. ltb x.subject.0 nodes && ltb x.object.0 nodes) (f ∙ e))

  pub known_more : no_refusal ≡ refuse_unless known 24 (i + 1) → Well (unknown_at list nodes) i → Well (unknown_at list nodes) (i + 1)
  known_more h v = well_more (h ∙ known_is) refl v

  pub known_first : (r : Refused) → refusal_says r ≡ refuse_unless known 24 (i + 1) → {n : ℕ} → i < n → Well (unknown_at list nodes) i
      → refusal_says r ≡ first_of (up_to n) (unknown_at list nodes)
  known_first r h l v = well_first (h ∙ known_is) l (refused_some r) v
