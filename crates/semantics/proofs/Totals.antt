-- Over all nodes, the pairs of one value add up to all pairs of that value. Document 02, point 5. Assumes nothing.
use Prim.Native.Nat.{ℕ}
use mathlib.Core.Path.{◌≡◌, sym, ap, ◌∙◌}
use mathlib.Core.List.{map}
use lib.ListN.{length, get_or}
use lib.Dec.{eqb}
use Rattle.fixpoint.specs.Lists.{up_to, count, sum}
use Rattle.fixpoint.proofs.Sums.{count_places, count_by_rest}
use Rattle.cases.specs.Case.{Case}
use Rattle.semantics.specs.Operations.{tally}
use Rattle.semantics.specs.Solving.{solved_values}
use Rattle.semantics.specs.Totals.{node_tally}
use Rattle.semantics.specs.Values.{pair_count, pair_of, entry_at}
use Rattle.semantics.proofs.Solved.{solved_length}

pub nodes_add_up : (v : ℕ) (c : Case) → sum (map (node_tally v c) (up_to c.nodes)) ≡ tally v (solved_values c)
unfolding tally node_tally entry_at pair_of pair_count
nodes_add_up v c =
    sym (count_places (solved_values c) 0 (λ x. eqb x v)
    ∙ ap (λ n. count (up_to n) (λ k. eqb (get_or (solved_values c) k 0) v)) (solved_length c)
    ∙ count_by_rest (length c.shapes) c.nodes (λ k. eqb (get_or (solved_values c) k 0) v))
