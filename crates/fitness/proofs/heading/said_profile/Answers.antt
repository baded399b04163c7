-- `fitness::heading::said_profile` meets its contract: 3, 22, or the profile. Assumes nothing.
use Rattle.fitness.proofs.Headings.{heading_cut, heading_unknown, heading_said, operands_there}
use Rattle.fitness.proofs.heading.said_profile.Goals as goal

pub read_operands-requires : goal.read_operands-requires
read_operands-requires c = search operands_there

pub returns-in_default : goal.returns-in_default
returns-in_default c = search heading_cut

pub returns-then-not-is_profile : goal.returns-then-not-is_profile
returns-then-not-is_profile c = search heading_unknown

pub returns : goal.returns
returns c = search heading_said
