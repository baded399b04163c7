-- `PathRule::from` of a row (`cases::command`) meets its contract: each arm answers as the definition does for that byte, and the last for any other. Assumes nothing.
use Rattle.std.proofs.Common.{rules}
use borrow.Author.Tests.{ne_eqb}
use Rattle.cases.specs.Format.{path_rule_of}
use Rattle.cases.proofs.command.PathRuleFromRow.from.Goals as goal

pub returns-in-16 : goal.returns-in-16
unfolding path_rule_of
returns-in-16 c = rw c.in-16.is

pub returns-in-17 : goal.returns-in-17
unfolding path_rule_of
returns-in-17 c = rw c.in-17.is

pub returns-in-18 : goal.returns-in-18
unfolding path_rule_of
returns-in-18 c = rw c.in-18.is

pub returns-in-19 : goal.returns-in-19
unfolding path_rule_of
returns-in-19 c = rw c.in-19.is

pub returns-in_default : goal.returns-in_default
unfolding path_rule_of
returns-in_default c = search (ne_eqb, rules)
