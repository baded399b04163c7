-- `finding::commands::find` meets its contract: what is found, judged by 20. Assumes nothing.
use Rattle.std.proofs.Common.{of_calls}
use Rattle.finding.proofs.Findings.{found_refused, found_laid}
use Rattle.finding.proofs.commands.find.Goals as goal

pub returns-in_default : goal.returns-in_default
returns-in_default c = found_refused _ c.find_roomy-found.ensures c.in_default.is (search of_calls)

pub returns : goal.returns
returns c = search found_laid
