-- `fitness::shapes::shape_nodes_known` meets its contract: each arm answers as the definition does for that variant. Assumes nothing.
use Rattle.cases.specs.Faults.{shape_nodes_known}
use Rattle.fitness.proofs.shapes.shape_nodes_known.Goals as goal

pub returns-in-Top : goal.returns-in-Top
unfolding shape_nodes_known
returns-in-Top c = cc

pub returns-in-Node : goal.returns-in-Node
unfolding shape_nodes_known
returns-in-Node c = cc

pub returns-in-And : goal.returns-in-And
unfolding shape_nodes_known
returns-in-And c = cc

pub returns-in-Or : goal.returns-in-Or
unfolding shape_nodes_known
returns-in-Or c = cc

pub returns-in-Not : goal.returns-in-Not
unfolding shape_nodes_known
returns-in-Not c = cc

pub returns-in-Same : goal.returns-in-Same
unfolding shape_nodes_known
returns-in-Same c = cc

pub returns-in-All : goal.returns-in-All
unfolding shape_nodes_known
returns-in-All c = cc

pub returns-in-AtLeast : goal.returns-in-AtLeast
unfolding shape_nodes_known
returns-in-AtLeast c = cc
