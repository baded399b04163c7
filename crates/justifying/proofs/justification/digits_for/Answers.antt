-- `justifying::justification::digits_for` meets its contract: only an all and an at least read levels at fillers. Assumes nothing.
use Rattle.support.proofs.RulesThere.{all_known, least_known, all_path_named, least_path_named, block_named}
use Rattle.justifying.proofs.Justified.{level_row, digits_of_all, digits_of_least}
use Rattle.justifying.proofs.justification.digits_for.Goals as goal

pub digits_over-requires-clause-block : goal.digits_over-requires-clause-block
digits_over-requires-clause-block c = search (block_named, all_path_named)

pub digits_over-requires-clause-level_row : goal.digits_over-requires-clause-level_row
digits_over-requires-clause-level_row c = search (level_row, all_known)

pub digits_over-requires-in-AtLeast-clause-block : goal.digits_over-requires-in-AtLeast-clause-block
digits_over-requires-in-AtLeast-clause-block c = search (block_named, least_path_named)

pub digits_over-requires-in-AtLeast-clause-level_row : goal.digits_over-requires-in-AtLeast-clause-level_row
digits_over-requires-in-AtLeast-clause-level_row c = search (level_row, least_known)

pub returns-in-All : goal.returns-in-All
returns-in-All c = search digits_of_all

pub returns-in-AtLeast : goal.returns-in-AtLeast
returns-in-AtLeast c = search digits_of_least
