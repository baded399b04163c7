-- `adding::searching::lay_base` meets its contract: who refers to whom, and the sets of nodes that no candidate touches. Assumes nothing.
use Rattle.fillers.proofs.Turning.{converse_none_held}
use Rattle.adding.proofs.Starting.{base_laid}
use Rattle.adding.proofs.searching.lay_base.Goals as goal

pub lay_sets-made-requires-clause-converse_held : goal.lay_sets-made-requires-clause-converse_held
lay_sets-made-requires-clause-converse_held c = search converse_none_held

pub returns : goal.returns
returns c = search base_laid
