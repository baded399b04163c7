-- `checker::checking::fault_with` meets its contract: the table is large enough, and holds the sets of nodes. Assumes nothing.
use Rattle.std.proofs.Common.{rules}
use Rattle.fillers.proofs.Prepared.{tables_made}
use Rattle.checker.proofs.checking.fault_with.Goals as goal

pub fault_in-requires-clause-tables : goal.fault_in-requires-clause-tables
fault_in-requires-clause-tables g c = tables_made (search rules) (search rules) c.node_sets.ensures
