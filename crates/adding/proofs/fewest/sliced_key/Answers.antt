-- `adding::fewest::sliced_key` meets its contract: the slice has the same first key. Assumes nothing.
use Rattle.adding.proofs.Slices.{case_shapes}
use Rattle.adding.proofs.Slices.{searchable_slice, sliced_key}
use Rattle.adding.proofs.fewest.sliced_key.Goals as goal

pub reached-set-requires-clause-shapes_in : goal.reached-set-requires-clause-shapes_in
reached-set-requires-clause-shapes_in c = search case_shapes

pub search-requires : goal.search-requires
search-requires c = search searchable_slice

pub returns : goal.returns
returns c = search sliced_key
