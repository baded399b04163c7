-- `bitset::words::with_bit_if` meets its contract in both cases. Assumes nothing.
use Rattle.bitset.proofs.Bits.{bit_set_if}
use Rattle.bitset.proofs.words.with_bit_if.Goals as goal

pub returns-then-there : goal.returns-then-there
returns-then-there c = rw c.if-there.true (bit_set_if c.with_bit.ensures)
