-- `support::rule_values::pair_value` meets its contract. Assumes nothing.
use Rattle.support.proofs.RulesThere.{live_row, node_in_words}
use Rattle.support.proofs.Supported.{pair_live, pair_dead}
use Rattle.support.proofs.rule_values.pair_value.Goals as goal

pub is_member-requires : goal.is_member-requires
is_member-requires c = search (live_row, node_in_words)

pub returns-then-not-is_member : goal.returns-then-not-is_member
returns-then-not-is_member c = search pair_dead

pub returns : goal.returns
returns c = search pair_live
