use Rattle.justifying.proofs.Lowered.{asked_row, row_passed_more, row_passed_not, row_passed_done}
use Rattle.justifying.proofs.low_levels.all_lower.Goals as goal

pub lower_word-requires : goal.lower_word-requires
lower_word-requires c = search asked_row

pub returns-then-lower_word-word : goal.returns-then-lower_word-word
returns-then-lower_word-word c =
    row_passed_not c.loop-i.invariant c.loop-i-test.true c.lower_word.ensures (search) c.type_inv.sets c.if-lower_word-word.true

pub loop-i-preserved : goal.loop-i-preserved
loop-i-preserved c = row_passed_more c.loop-i.invariant c.loop-i-test.true c.lower_word.ensures c.if-lower_word-word.false

pub returns : goal.returns
returns c = row_passed_done c.loop-i-test.false c.loop-i.invariant
