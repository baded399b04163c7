-- `support::proposing::propose` meets its contract: where no byte is refused, the tables are the sets of the proposed values. Assumes nothing.
use Rattle.support.proofs.ValueFaults.{proposed}
use Rattle.support.proofs.proposing.propose.Goals as goal

pub returns : goal.returns
returns c = search proposed
