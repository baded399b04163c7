-- `bitset::rows::insert` meets its contract: what is assigned is there. Assumes nothing.
use Rattle.bitset.proofs.Members.{inserted}
use Rattle.bitset.proofs.rows.insert.Goals as goal

pub returns : goal.returns
returns c = search inserted
