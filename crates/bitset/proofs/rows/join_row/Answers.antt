use Rattle.bitset.proofs.Making.{added_more}
use Rattle.bitset.proofs.rows.join_row.Goals as goal

pub loop-i-preserved : goal.loop-i-preserved
loop-i-preserved c = search added_more
