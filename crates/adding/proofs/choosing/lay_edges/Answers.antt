use Rattle.adding.proofs.Chosen.{edges_more}
use Rattle.adding.proofs.choosing.lay_edges.Goals as goal

pub loop-i-preserved : goal.loop-i-preserved
loop-i-preserved c = edges_more c.loop-i-test.true c.loop-i.invariant c.row_in.ensures c.unparked_row.ensures c.put_row.ensures
