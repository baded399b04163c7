-- `bitset::words::without_bit` meets its contract: what a word has outside the word of one bit. Assumes nothing.
use Rattle.bitset.proofs.Bits.{bit_left_out}
use Rattle.bitset.proofs.words.without_bit.Goals as goal

pub returns : goal.returns
returns c = bit_left_out c.requires c.with_bit.ensures c.without.ensures
