-- `justifying::justification::has_many` is safe; what it answers is only a matter of speed. Assumes nothing.
use native.Mathlib.Omega.{arith}
use Rattle.support.proofs.RulesThere.{block_row}
use Rattle.justifying.proofs.justification.has_many.Goals as goal

pub count_common-requires : goal.count_common-requires
count_common-requires c = search (block_row, arith)
