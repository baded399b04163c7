-- `justifying::low_levels::lower_word` meets its contract. Assumes nothing.
use Rattle.justifying.proofs.Lowered.{lower_by_digits}
use Rattle.justifying.proofs.low_levels.lower_word.Goals as goal

pub returns : goal.returns
returns c = search lower_by_digits
