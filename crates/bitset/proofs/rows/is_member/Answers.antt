-- `bitset::rows::is_member` meets its contract: b is bit b % 64 of the row's word b / 64. Assumes nothing.
use Rattle.bitset.specs.Words.{member}
use Rattle.bitset.proofs.rows.is_member.Goals as goal

pub returns : goal.returns
unfolding member
returns c = c.has_bit.ensures
