-- `parts::readers::with_references` meets its contract: each arm answers as the definition does for that byte. Assumes nothing.
use Rattle.std.proofs.Common.{rules}
use Rattle.parts.specs.Reads.{with_references}
use borrow.Author.Tests.{ne_eqb}
use Rattle.parts.proofs.readers.with_references.Goals as goal

pub returns-in-32 : goal.returns-in-32
unfolding with_references
returns-in-32 c = rw c.in-32.is

pub returns-in-33 : goal.returns-in-33
unfolding with_references
returns-in-33 c = rw c.in-33.is

pub returns-in-34 : goal.returns-in-34
unfolding with_references
returns-in-34 c = rw c.in-34.is

pub returns-in-35 : goal.returns-in-35
unfolding with_references
returns-in-35 c = rw c.in-35.is

pub returns-in-36 : goal.returns-in-36
unfolding with_references
returns-in-36 c = rw c.in-36.is

pub returns-in-37 : goal.returns-in-37
unfolding with_references
returns-in-37 c = rw c.in-37.is

pub returns-in-38 : goal.returns-in-38
unfolding with_references
returns-in-38 c = rw c.in-38.is

pub returns-in_default : goal.returns-in_default
unfolding with_references
returns-in_default c = search (ne_eqb, rules)
