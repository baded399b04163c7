-- `bitset::words::bits_below` meets its contract. Assumes nothing.
use Rattle.bitset.proofs.Bits.{below_first, below_all}
use Rattle.bitset.proofs.words.bits_below.Goals as goal

pub returns-then-n-lt64 : goal.returns-then-n-lt64
returns-then-n-lt64 c = search below_first

pub returns-else-n-lt64 : goal.returns-else-n-lt64
returns-else-n-lt64 c = search below_all
