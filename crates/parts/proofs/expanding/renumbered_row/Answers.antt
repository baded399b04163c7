-- `parts::expanding::renumbered_row` meets its contract: each arm answers as the definition does for that byte. Assumes nothing.
use Rattle.std.proofs.Common.{rules}
use Rattle.parts.specs.Expanding.{renumbered_row}
use borrow.Author.Tests.{ne_eqb}
use Rattle.parts.proofs.expanding.renumbered_row.Goals as goal

pub returns-in-32 : goal.returns-in-32
unfolding renumbered_row
returns-in-32 c = rw c.in-32.is

pub returns-in-33 : goal.returns-in-33
unfolding renumbered_row
returns-in-33 c = rw c.in-33.is

pub returns-in-34 : goal.returns-in-34
unfolding renumbered_row
returns-in-34 c = rw (c.in-34.is, c.renumbered_reference.ensures, c.renumbered_reference-in-34.ensures)

pub returns-in-35 : goal.returns-in-35
unfolding renumbered_row
returns-in-35 c = rw (c.in-35.is, c.renumbered_reference-in-35.ensures, c.renumbered_reference-in-35-2.ensures)

pub returns-in-36 : goal.returns-in-36
unfolding renumbered_row
returns-in-36 c = rw (c.in-36.is, c.renumbered_reference-in-36.ensures)

pub returns-in-37 : goal.returns-in-37
unfolding renumbered_row
returns-in-37 c = rw c.in-37.is

pub returns-in-38 : goal.returns-in-38
unfolding renumbered_row
returns-in-38 c = rw (c.in-38.is, c.renumbered_reference-in-38.ensures)

pub returns-in_default : goal.returns-in_default
unfolding renumbered_row
returns-in_default c = rw c.renumbered_reference-in_default.ensures (search (ne_eqb, rules))
