-- `bitset::words::with_bit` meets its contract: the bits of a word or a power of two. Assumes nothing.
use Rattle.bitset.proofs.Bits.{bit_set}
use Rattle.bitset.proofs.words.with_bit.Goals as goal

pub returns : goal.returns
returns c = bit_set c.args.word c.args.j c.requires
