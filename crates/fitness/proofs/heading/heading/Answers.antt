-- `fitness::heading::heading` meets its contract: there is no 00, or what it says. Assumes nothing.
use Rattle.fitness.proofs.Headings.{heading_empty, heading_none}
use Rattle.fitness.proofs.heading.heading.Goals as goal
use native.Mathlib.Omega.{arith}

pub returns-in_default : goal.returns-in_default
returns-in_default c = search (heading_empty, arith)

pub returns-in_default-2 : goal.returns-in_default-2
returns-in_default-2 c = search (heading_none, arith)
