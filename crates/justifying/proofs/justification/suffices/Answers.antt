-- `justifying::justification::suffices` meets its contract. Assumes nothing.
use Rattle.justifying.proofs.Justified.{suffices_never, suffices_if}
use Rattle.justifying.proofs.justification.suffices.Goals as goal

pub returns-then-level-gt0 : goal.returns-then-level-gt0
returns-then-level-gt0 c = search suffices_if

pub returns-else-level-gt0 : goal.returns-else-level-gt0
returns-else-level-gt0 c = search suffices_never
