-- `fitness::faults::paths_earlier` meets its contract: the paths that a path's rule names are its operands. Assumes nothing.
use Rattle.cases.specs.Faults.{path_paths_earlier}
use Rattle.fitness.proofs.faults.paths_earlier.Goals as goal

pub returns-in-Path : goal.returns-in-Path
unfolding path_paths_earlier
returns-in-Path c = rw (c.all_earlier.ensures, c.paths_of_path.ensures, c.in-Path.is)
