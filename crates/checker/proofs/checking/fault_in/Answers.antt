-- `checker::checking::fault_in` meets its contract, code by code. Assumes nothing.
use Rattle.checker.proofs.Answered.{fault_older, fault_newer}
use Rattle.checker.proofs.checking.fault_in.Goals as goal

pub returns-in-Older : goal.returns-in-Older
returns-in-Older c = search fault_older

pub returns-in-Newer : goal.returns-in-Newer
returns-in-Newer c = search fault_newer
