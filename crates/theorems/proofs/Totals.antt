-- Totals by fitting over bytes in: which nodes are refused, and that over all nodes they add up to what solving carries. Document 02, point 5.
-- Assumes nothing.
use Prim.Native.Nat.{ℕ, ◌<◌}
use native.Mathlib.Omega.{arith}
use mathlib.Core.Path.{◌≡◌, sym, ◌∙◌}
use mathlib.Core.Logic.Iff
use mathlib.Core.Logic.{◌↔◌}
use mathlib.Core.List.{List, map}
use lib.Dec.{ltb}
use borrow.Author.Tests.{ltb-true, lt-ltb}
use Rattle.fixpoint.specs.Lists.{up_to, sum}
use Rattle.fixpoint.proofs.Lists.{made_same}
use Rattle.semantics.specs.Operations.{case_of, solve_refusal, solve_answer, solution, tally}
use Rattle.semantics.specs.Solving.{solved_values}
use Rattle.semantics.specs.Totals.{node_tally, totals_fault, totals_refusal, totals, totals_answer}
use Rattle.semantics.proofs.Refusing.{or_else_none, unless_none, counted_unrefused}
use Rattle.semantics.proofs.Totals.{nodes_add_up}
use Rattle.theorems.specs.Demands.{Reads, SolvedCase}
use Rattle.theorems.proofs.Demands.{solve_none}

-- nothing is refused exactly where the input reads and the node is in the case
pub totals_given_exactly : (s : List ℕ) (node : ℕ) → ((totals_answer s node).number ≡ 0) ↔ (Reads s × (node < (case_of s).nodes))
unfolding totals_answer totals totals_refusal totals_fault
totals_given_exactly s node =
    let n = (case_of s).nodes in
    or_else_none _ _ Iff.rfl (Iff.trans (unless_none (ltb node n) 5 node (omega arith)) (ltb-true node n, lt-ltb node n))

module _ (s vt lt dt : List ℕ) (solved : SolvedCase s vt lt dt) where
  given : (a : ℕ) → a < (case_of s).nodes → (totals_refusal s a).number ≡ 0
  unfolding totals_answer totals
  given a h = (totals_given_exactly s a).1 (((solve_none s vt lt dt).0 solved.number_zero).0, h)

  -- a node's totals are those of the case, and solving carries those of all pairs
  pub valid_adds_up : sum (map (λ a. (totals_answer s a).valid) (up_to (case_of s).nodes)) ≡ (solve_answer s vt lt dt).valid
  unfolding totals_answer totals solve_answer solution
  valid_adds_up =
      rw (made_same _ (node_tally 2 (case_of s)) (case_of s).nodes (λ a h. counted_unrefused (totals_refusal s a) (node_tally 2 (case_of s) a) (given a h)))
      (nodes_add_up 2 (case_of s) ∙ sym (counted_unrefused (solve_refusal s vt lt dt) (tally 2 (solved_values (case_of s))) solved.number_zero))

  pub undetermined_adds_up : sum (map (λ a. (totals_answer s a).undetermined) (up_to (case_of s).nodes)) ≡ (solve_answer s vt lt dt).undetermined
  unfolding totals_answer totals solve_answer solution
  undetermined_adds_up =
      rw (made_same _ (node_tally 1 (case_of s)) (case_of s).nodes (λ a h. counted_unrefused (totals_refusal s a) (node_tally 1 (case_of s) a) (given a h)))
      (nodes_add_up 1 (case_of s) ∙ sym (counted_unrefused (solve_refusal s vt lt dt) (tally 1 (solved_values (case_of s))) solved.number_zero))
