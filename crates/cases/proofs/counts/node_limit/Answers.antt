-- `cases::counts::node_limit` meets its contract: each arm answers as the definition does for that profile. Assumes nothing.
use Rattle.std.proofs.Common.{rules}
use borrow.Author.Tests.{ne_eqb}
use Rattle.cases.specs.Counts.{node_limit}
use Rattle.cases.proofs.counts.node_limit.Goals as goal

pub returns-in-0 : goal.returns-in-0
unfolding node_limit
returns-in-0 c = rw c.in-0.is

pub returns-in-1 : goal.returns-in-1
unfolding node_limit
returns-in-1 c = rw c.in-1.is

pub returns-in_default : goal.returns-in_default
unfolding node_limit
returns-in_default c = search (ne_eqb, rules)
