use Rattle.adding.proofs.Keyed.{keys_asked, searching_more, searching_found, searching_end}
use Rattle.adding.proofs.searching.first_key.Goals as goal

pub returns-then-is_sure : goal.returns-then-is_sure
returns-then-is_sure c = search (searching_found, keys_asked)

pub loop-key-preserved : goal.loop-key-preserved
loop-key-preserved c = search searching_more

pub returns : goal.returns
returns c = search (searching_end, keys_asked)
