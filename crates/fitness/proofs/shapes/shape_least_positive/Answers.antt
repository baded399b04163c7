-- `fitness::shapes::shape_least_positive` meets its contract: each arm answers as the definition does for that variant. Assumes nothing.
use Rattle.fitness.proofs.Arms.{least_number}
use Rattle.fitness.proofs.shapes.shape_least_positive.Goals as goal

pub returns-in-AtLeast : goal.returns-in-AtLeast
returns-in-AtLeast c = search least_number
