-- `adding::searching::search_with` meets its contract: the rows behind the edges are the slice's, and the tables have what no candidate touches.
-- Assumes nothing.
use Rattle.adding.proofs.Starting.{copied_long, behind_copied}
use Rattle.adding.proofs.searching.search_with.Goals as goal

pub copy_from_slice-requires : goal.copy_from_slice-requires
copy_from_slice-requires g c = search copied_long

pub first_key-requires : goal.first_key-requires
first_key-requires g c = search behind_copied
