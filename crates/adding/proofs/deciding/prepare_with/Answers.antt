-- `adding::deciding::prepare_with` meets its contract: the rows hold the case with the chosen edges, and what is laid is for it. Assumes nothing.
use Rattle.adding.proofs.Verdicts.{selected_in, room_with, held_there, prepares_with}
use Rattle.adding.proofs.deciding.prepare_with.Goals as goal

pub lay_sets-requires-clause-case_in : goal.lay_sets-requires-clause-case_in
lay_sets-requires-clause-case_in c = search selected_in

pub lay_sets-requires-clause-counts_in_bounds : goal.lay_sets-requires-clause-counts_in_bounds
lay_sets-requires-clause-counts_in_bounds c = search room_with

pub lay_sets-requires-clause-converse_held : goal.lay_sets-requires-clause-converse_held
lay_sets-requires-clause-converse_held c = search held_there

pub returns : goal.returns
returns c = search prepares_with
