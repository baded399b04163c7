-- `bitset::words::first_bits` meets its contract: a power of two less one has the bits below it. Assumes nothing.
use Rattle.bitset.proofs.Bits.{first_bits}
use Rattle.bitset.proofs.words.first_bits.Goals as goal

pub returns : goal.returns
returns c = first_bits c.args.n c.requires
