-- `parts::heads::opening_of` meets its contract: each arm answers as the definition does for that kind. Assumes nothing.
use Rattle.std.proofs.Common.{rules}
use Rattle.cases.specs.Parts.{opening}
use borrow.Author.Tests.{ne_eqb}
use Rattle.parts.proofs.heads.opening_of.Goals as goal

pub returns-in-1 : goal.returns-in-1
unfolding opening
returns-in-1 c = rw c.in-1.is

pub returns-in-2 : goal.returns-in-2
unfolding opening
returns-in-2 c = rw c.in-2.is

pub returns-in_default : goal.returns-in_default
unfolding opening
returns-in_default c = search (ne_eqb, rules)
