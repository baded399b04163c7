-- `cases::paths::paths_of_path` meets its contract: each arm answers the variant's paths. Assumes nothing.
use Rattle.cases.specs.Case.{paths_of_path}
use Rattle.cases.proofs.paths.paths_of_path.Goals as goal

pub returns-in-Forward : goal.returns-in-Forward
unfolding paths_of_path
returns-in-Forward c = cc

pub returns-in-Backward : goal.returns-in-Backward
unfolding paths_of_path
returns-in-Backward c = cc

pub returns-in-Union : goal.returns-in-Union
unfolding paths_of_path
returns-in-Union c = cc

pub returns-in-Sequence : goal.returns-in-Sequence
unfolding paths_of_path
returns-in-Sequence c = cc

pub returns-in-Star : goal.returns-in-Star
unfolding paths_of_path
returns-in-Star c = cc
