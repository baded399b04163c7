-- `cases::command::command_of` meets its contract: each arm answers as the definition does for that group, and the last for any other. Assumes nothing.
use Rattle.std.proofs.Common.{rules}
use borrow.Author.Tests.{ne_eqb}
use Rattle.cases.specs.Format.{command_of}
use Rattle.cases.proofs.command.command_of.Goals as goal

pub returns-in-1 : goal.returns-in-1
unfolding command_of
returns-in-1 c = rw c.in-1.is

pub returns-in-2 : goal.returns-in-2
unfolding command_of
returns-in-2 c = rw (c.in-2.is, c.from.ensures)

pub returns-in-3 : goal.returns-in-3
unfolding command_of
returns-in-3 c = rw (c.in-3.is, c.from-in-3.ensures)

pub returns-in-4 : goal.returns-in-4
unfolding command_of
returns-in-4 c = rw (c.in-4.is, c.from-in-4.ensures)

pub returns-in-5 : goal.returns-in-5
unfolding command_of
returns-in-5 c = rw (c.in-5.is, c.from-in-5.ensures)

pub returns-in_default : goal.returns-in_default
unfolding command_of
returns-in_default c = search (ne_eqb, rules)
