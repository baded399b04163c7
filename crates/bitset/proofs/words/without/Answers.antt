-- `bitset::words::without` meets its contract: and of a word and its difference from another. Assumes nothing.
use Rattle.bitset.proofs.Bits.{bits_without}
use Rattle.bitset.proofs.words.without.Goals as goal

pub returns : goal.returns
returns c = bits_without c.args.word c.args.other
