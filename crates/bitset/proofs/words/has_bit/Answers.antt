-- `bitset::words::has_bit` meets its contract: a shift and a remainder are the definition of a bit. Assumes nothing.
use mathlib.Core.Path.{refl}
use Rattle.bitset.specs.Words.{bit}
use Rattle.bitset.proofs.words.has_bit.Goals as goal

pub returns : goal.returns
unfolding bit
returns c = refl
