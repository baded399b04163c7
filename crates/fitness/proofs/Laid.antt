-- Refusal 20: an edge looked for among those so far. Assumes nothing.
use Prim.Native.Nat.{ℕ, zero, suc}
use native.Mathlib.Numerals.{add-one}
use mathlib.Core.Path.{◌≡◌, refl, sym, ap, ◌∙◌}
use mathlib.Core.Bool.{Bool, ◌||◌}
use mathlib.Core.List.{List, map}
use Rattle.std.specs.List.{list_any, range_with_len}
use Rattle.fixpoint.specs.Lists.{from, up_to, any}
use Rattle.fixpoint.proofs.Lists.{any_map}
use Rattle.cases.specs.declared.command.Edge.{Edge}
use Rattle.cases.specs.Case.{edge_is}
use Rattle.cases.specs.Faults.{laid}
use Rattle.cases.specs.Rows.{edge_in}

-- a test of the n numbers from i on
any_from : (t : ℕ → Bool) (i n : ℕ) → list_any t (range_with_len i n) ≡ any (from i n) t
unfolding any from
any_from t i zero = refl
any_from t i (suc n) = ap (λ b. t i || b) (rw add-one (any_from t (suc i) n))

pub laid_any : (edge : Edge) (edges : ℕ) (rows : List ℕ) {b : Bool}
    → b ≡ list_any (λ i. edge_is 0x02 edge.property.0 edge.subject.0 edge.object.0 (edge_in rows i)) (range_with_len 0 edges)
    → b ≡ laid (map (edge_in rows) (up_to edges)) edge
unfolding laid up_to
laid_any edge edges rows e =
    e ∙ any_from _ 0 edges ∙ sym (any_map (edge_in rows) (up_to edges) (edge_is 0x02 edge.property.0 edge.subject.0 edge.object.0))
