-- `bitset::words::lowest_bit` meets its contract: above the zeros that end a word stands a bit. Assumes nothing.
use Rattle.std.proofs.Common.{rules}
use Rattle.bitset.proofs.Bits.{lowest}
use Rattle.bitset.proofs.words.lowest_bit.Goals as goal

pub returns : goal.returns
returns c = lowest c.args.word (search rules) (search rules)
