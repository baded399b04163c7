-- Groups of nodes that no edge joins: the case of a group, and its rounds. Document 02, point 9. Assumes nothing.
-- A group is a test on nodes; the other group is the nodes that it leaves out (`others`).
use Rattle.std.specs.Prelude.{ℕ, max, ◌≡◌, Bool, false, not, List}
use Rattle.std.specs.Bool.{beq}
use Rattle.fixpoint.specs.Lists.{any, keep}
use Rattle.fixpoint.specs.Sets.{cut_to, others}
use Rattle.fixpoint.specs.Stages.{RoundsCounted}
use Rattle.cases.specs.Case.{Case}
use Rattle.cases.specs.declared.command.Edge.{Edge}
use Rattle.semantics.specs.Parking.{with_edges}
use Rattle.semantics.specs.Solving.{round_t}
use Rattle.semantics.specs.Values.{pair_count, node_of}

-- an edge command, 02 or 03, has one end in the group and one in the other
unfoldable pub joins : (ℕ → Bool) → Edge → Bool
joins g e = not (beq (g e.subject.0) (g e.object.0))

-- "the nodes fall into two groups that no edge joins, parked ones included": no 02 does, whether it is parked or not, and no 03
pub record Apart (c : Case) (g : ℕ → Bool) : Type 0 where
  pub none_joins : any c.edges (joins g) ≡ false

-- "the case with only that group's edges": the 02s and 03s whose subject is in the group, in their order; where no edge joins the groups, so
-- is their object. All nodes, paths, shapes and targets of the case stay
unfoldable pub group_case : Case → (ℕ → Bool) → Case
group_case c g = with_edges c (keep c.edges (λ e. g e.subject.0))

-- "the T sets of its own case, cut to its nodes": the pairs of Ti whose node is in the group. The other group's nodes are in that case too,
-- without their edges, and may rest later: solving it may take more rounds than the group has
unfoldable pub group_t : Case → (ℕ → Bool) → ℕ → List Bool
group_t c g i = cut_to (pair_count c) (λ k. g (node_of c k)) (round_t (group_case c g) i)

-- "The rounds of the whole are the larger of the two groups'"
pub record LargerRounds (c : Case) (g : ℕ → Bool) (whole : ℕ) : Type 0 where
  pub ours : ℕ
  pub theirs : ℕ
  pub ours_counted : RoundsCounted (group_t c g) ours
  pub theirs_counted : RoundsCounted (group_t c (others g)) theirs
  pub larger : whole ≡ max ours theirs
