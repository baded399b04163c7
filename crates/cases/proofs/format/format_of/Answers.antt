-- `cases::format::format_of` meets its contract: each arm answers as the definition does for that byte, and the last for any other. Assumes nothing.
use Rattle.std.proofs.Common.{rules}
use borrow.Author.Tests.{ne_eqb}
use Rattle.cases.specs.Format.{format_of}
use Rattle.cases.proofs.format.format_of.Goals as goal

pub returns-in-0 : goal.returns-in-0
unfolding format_of
returns-in-0 c = rw c.in-0.is

pub returns-in-1 : goal.returns-in-1
unfolding format_of
returns-in-1 c = rw c.in-1.is

pub returns-in-2 : goal.returns-in-2
unfolding format_of
returns-in-2 c = rw c.in-2.is

pub returns-in-3 : goal.returns-in-3
unfolding format_of
returns-in-3 c = rw c.in-3.is

pub returns-in-16 : goal.returns-in-16
unfolding format_of
returns-in-16 c = rw c.in-16.is

pub returns-in-17 : goal.returns-in-17
unfolding format_of
returns-in-17 c = rw c.in-17.is

pub returns-in-18 : goal.returns-in-18
unfolding format_of
returns-in-18 c = rw c.in-18.is

pub returns-in-19 : goal.returns-in-19
unfolding format_of
returns-in-19 c = rw c.in-19.is

pub returns-in-20 : goal.returns-in-20
unfolding format_of
returns-in-20 c = rw c.in-20.is

pub returns-in-32 : goal.returns-in-32
unfolding format_of
returns-in-32 c = rw c.in-32.is

pub returns-in-33 : goal.returns-in-33
unfolding format_of
returns-in-33 c = rw c.in-33.is

pub returns-in-34 : goal.returns-in-34
unfolding format_of
returns-in-34 c = rw c.in-34.is

pub returns-in-35 : goal.returns-in-35
unfolding format_of
returns-in-35 c = rw c.in-35.is

pub returns-in-36 : goal.returns-in-36
unfolding format_of
returns-in-36 c = rw c.in-36.is

pub returns-in-37 : goal.returns-in-37
unfolding format_of
returns-in-37 c = rw c.in-37.is

pub returns-in-38 : goal.returns-in-38
unfolding format_of
returns-in-38 c = rw c.in-38.is

pub returns-in-39 : goal.returns-in-39
unfolding format_of
returns-in-39 c = rw c.in-39.is

pub returns-in-48 : goal.returns-in-48
unfolding format_of
returns-in-48 c = rw c.in-48.is

pub returns-in-255 : goal.returns-in-255
unfolding format_of
returns-in-255 c = rw c.in-255.is

pub returns-in_default : goal.returns-in_default
unfolding format_of
returns-in_default c = search (ne_eqb, rules)
