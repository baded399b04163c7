-- `cases::shape_operands::references_of` meets its contract: each arm answers the variant's references. Assumes nothing.
use Rattle.cases.specs.Case.{references}
use Rattle.cases.proofs.shape_operands.references_of.Goals as goal

pub returns-in-Top : goal.returns-in-Top
unfolding references
returns-in-Top c = cc

pub returns-in-Node : goal.returns-in-Node
unfolding references
returns-in-Node c = cc

pub returns-in-And : goal.returns-in-And
unfolding references
returns-in-And c = cc

pub returns-in-Or : goal.returns-in-Or
unfolding references
returns-in-Or c = cc

pub returns-in-Not : goal.returns-in-Not
unfolding references
returns-in-Not c = cc

pub returns-in-Same : goal.returns-in-Same
unfolding references
returns-in-Same c = cc

pub returns-in-All : goal.returns-in-All
unfolding references
returns-in-All c = cc

pub returns-in-AtLeast : goal.returns-in-AtLeast
unfolding references
returns-in-AtLeast c = cc
