-- `cases::format::part_format_of` meets its contract: each arm answers as the definition does for that byte, and the last for any other.
-- Assumes nothing.
use Rattle.std.proofs.Common.{rules}
use borrow.Author.Tests.{ne_eqb}
use Rattle.cases.specs.Parts.{part_format_of}
use Rattle.cases.proofs.format.part_format_of.Goals as goal

pub returns-in-32 : goal.returns-in-32
unfolding part_format_of
returns-in-32 c = rw c.in-32.is

pub returns-in-33 : goal.returns-in-33
unfolding part_format_of
returns-in-33 c = rw c.in-33.is

pub returns-in-34 : goal.returns-in-34
unfolding part_format_of
returns-in-34 c = rw c.in-34.is

pub returns-in-35 : goal.returns-in-35
unfolding part_format_of
returns-in-35 c = rw c.in-35.is

pub returns-in-36 : goal.returns-in-36
unfolding part_format_of
returns-in-36 c = rw c.in-36.is

pub returns-in-37 : goal.returns-in-37
unfolding part_format_of
returns-in-37 c = rw c.in-37.is

pub returns-in-38 : goal.returns-in-38
unfolding part_format_of
returns-in-38 c = rw c.in-38.is

pub returns-in-39 : goal.returns-in-39
unfolding part_format_of
returns-in-39 c = rw c.in-39.is

pub returns-in-41 : goal.returns-in-41
unfolding part_format_of
returns-in-41 c = rw c.in-41.is

pub returns-in-42 : goal.returns-in-42
unfolding part_format_of
returns-in-42 c = rw c.in-42.is

pub returns-in_default : goal.returns-in_default
unfolding part_format_of
returns-in_default c = search (ne_eqb, rules)
