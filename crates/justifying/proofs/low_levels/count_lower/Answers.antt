use Rattle.justifying.proofs.Lowered.{asked_common, passing_none, passing_more, passing_fits}
use Rattle.justifying.proofs.low_levels.count_lower.Goals as goal

pub loop-i-init : goal.loop-i-init
loop-i-init c = passing_none

pub lower_word-requires : goal.lower_word-requires
lower_word-requires c = search asked_common

pub overflow_add-n : goal.overflow_add-n
overflow_add-n c = search passing_fits

pub loop-i-preserved : goal.loop-i-preserved
loop-i-preserved c = search passing_more
