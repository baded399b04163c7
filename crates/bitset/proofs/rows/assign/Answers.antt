-- `bitset::rows::assign` meets its contract: the word with the bit as told is stored where b belongs. Assumes nothing.
use Rattle.bitset.proofs.Members.{assigned}
use Rattle.bitset.proofs.rows.assign.Goals as goal

pub returns : goal.returns
returns c = assigned c.requires.has_row c.requires.b_bound c.assign_bit-word.ensures
