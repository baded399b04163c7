-- `bitset::words::assign_bit` meets its contract in both cases. Assumes nothing.
use Rattle.bitset.proofs.Bits.{bit_put}
use Rattle.bitset.proofs.words.assign_bit.Goals as goal

pub returns-then-there : goal.returns-then-there
returns-then-there c = search bit_put
