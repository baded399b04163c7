-- `ShapeRule::from` of a row (`cases::command`) meets its contract: each arm answers as the definition does for that byte, and the last for any other. Assumes nothing.
use Rattle.std.proofs.Common.{rules}
use borrow.Author.Tests.{ne_eqb}
use Rattle.cases.specs.Format.{shape_rule_of}
use Rattle.cases.proofs.command.ShapeRuleFromRow.from.Goals as goal

pub returns-in-32 : goal.returns-in-32
unfolding shape_rule_of
returns-in-32 c = rw c.in-32.is

pub returns-in-33 : goal.returns-in-33
unfolding shape_rule_of
returns-in-33 c = rw c.in-33.is

pub returns-in-34 : goal.returns-in-34
unfolding shape_rule_of
returns-in-34 c = rw c.in-34.is

pub returns-in-35 : goal.returns-in-35
unfolding shape_rule_of
returns-in-35 c = rw c.in-35.is

pub returns-in-36 : goal.returns-in-36
unfolding shape_rule_of
returns-in-36 c = rw c.in-36.is

pub returns-in-37 : goal.returns-in-37
unfolding shape_rule_of
returns-in-37 c = rw c.in-37.is

pub returns-in-38 : goal.returns-in-38
unfolding shape_rule_of
returns-in-38 c = rw c.in-38.is

pub returns-in_default : goal.returns-in_default
unfolding shape_rule_of
returns-in_default c = search (ne_eqb, rules)
