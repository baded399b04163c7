-- `pairs::writing::value_at` meets its contract. Assumes nothing.
use Rattle.pairs.proofs.Valued.{value_is}
use Rattle.pairs.proofs.writing.value_at.Goals as goal

pub returns : goal.returns
returns c = search value_is
