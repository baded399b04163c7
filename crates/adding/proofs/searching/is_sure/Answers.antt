-- `adding::searching::is_sure` meets its contract: another size than the key's, or the verdict. Assumes nothing.
use Rattle.adding.proofs.Keyed.{other_size, this_size}
use Rattle.adding.proofs.searching.is_sure.Goals as goal

pub returns-then-selection-key : goal.returns-then-selection-key
returns-then-selection-key c = search other_size

pub returns : goal.returns
returns c = search this_size
