use Rattle.bitset.proofs.Members.{joined_more, joined_done}
use Rattle.bitset.proofs.rows.join_words.Goals as goal

pub loop-i-preserved : goal.loop-i-preserved
loop-i-preserved c = joined_more c.requires.has_row c.loop-i-test.true c.loop-i.invariant

pub returns : goal.returns
returns c = joined_done c.loop-i-test.false c.loop-i.invariant
