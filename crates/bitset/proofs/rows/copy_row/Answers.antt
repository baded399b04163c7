-- `bitset::rows::copy_row` meets its contract. Assumes nothing.
use Rattle.bitset.proofs.Making.{copied_row}
use Rattle.bitset.proofs.rows.copy_row.Goals as goal

pub returns : goal.returns
returns c = search copied_row
