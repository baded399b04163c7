-- `finding::commands::with_edge` meets its contract. Assumes nothing.
use Rattle.finding.specs.Finding.{with_edge}
use Rattle.finding.proofs.commands.with_edge.Goals as goal

pub returns-then-not-edge_there : goal.returns-then-not-edge_there
unfolding with_edge
returns-then-not-edge_there c = rw (← c.edge_there.ensures, c.if-not-edge_there.true)

pub returns : goal.returns
unfolding with_edge
returns c = rw (← c.edge_there.ensures, c.if-not-edge_there.false)
