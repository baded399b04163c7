use Rattle.bitset.proofs.Making.{copied_none, copied_more}
use Rattle.bitset.proofs.rows.copy_words.Goals as goal

pub loop-i-init : goal.loop-i-init
loop-i-init c = search copied_none

pub loop-i-preserved : goal.loop-i-preserved
loop-i-preserved c = search copied_more
