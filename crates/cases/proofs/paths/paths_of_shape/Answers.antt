-- `cases::paths::paths_of_shape` meets its contract: each arm answers the variant's paths. Assumes nothing.
use Rattle.cases.specs.Case.{paths_of_shape}
use Rattle.cases.proofs.paths.paths_of_shape.Goals as goal

pub returns-in-Top : goal.returns-in-Top
unfolding paths_of_shape
returns-in-Top c = cc

pub returns-in-Node : goal.returns-in-Node
unfolding paths_of_shape
returns-in-Node c = cc

pub returns-in-And : goal.returns-in-And
unfolding paths_of_shape
returns-in-And c = cc

pub returns-in-Or : goal.returns-in-Or
unfolding paths_of_shape
returns-in-Or c = cc

pub returns-in-Not : goal.returns-in-Not
unfolding paths_of_shape
returns-in-Not c = cc

pub returns-in-Same : goal.returns-in-Same
unfolding paths_of_shape
returns-in-Same c = cc

pub returns-in-All : goal.returns-in-All
unfolding paths_of_shape
returns-in-All c = cc

pub returns-in-AtLeast : goal.returns-in-AtLeast
unfolding paths_of_shape
returns-in-AtLeast c = cc
