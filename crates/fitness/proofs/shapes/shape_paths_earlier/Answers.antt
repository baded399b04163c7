-- `fitness::shapes::shape_paths_earlier` meets its contract: the paths that the rule names are its path operands. Assumes nothing.
use Rattle.cases.specs.Faults.{shape_paths_earlier}
use Rattle.fitness.proofs.shapes.shape_paths_earlier.Goals as goal

pub returns : goal.returns
unfolding shape_paths_earlier
returns c = rw (c.all_earlier.ensures, c.paths_of_shape.ensures)
