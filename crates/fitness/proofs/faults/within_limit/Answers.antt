-- `fitness::faults::within_limit` meets its contract: each arm answers as the definition does for that variant. Assumes nothing.
use Rattle.fitness.proofs.Arms.{edges_below}
use Rattle.fitness.proofs.faults.within_limit.Goals as goal

pub returns-in-Edge : goal.returns-in-Edge
returns-in-Edge c = search edges_below
