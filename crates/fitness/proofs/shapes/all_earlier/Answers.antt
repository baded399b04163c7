-- `fitness::shapes::all_earlier` meets its contract: each path is tested in turn. Assumes nothing.
use Rattle.std.proofs.Common.{rules}
use Rattle.fixpoint.specs.Lists.{all}
use Rattle.fitness.proofs.shapes.all_earlier.Goals as goal

pub returns : goal.returns
unfolding all
returns c = search rules
