use Rattle.justifying.proofs.Lowered.{sorted_none, sorted_done}
use Rattle.justifying.proofs.low_levels.lower_by_node.Goals as goal

pub loop-j-init : goal.loop-j-init
loop-j-init c = rw c.into_iter-j-iterator.ensures.into_iter_gives sorted_none

pub returns : goal.returns
returns c = sorted_done c.loop-j.invariant c.in-None.ensures.steps
