-- `semantics::refusals::refused_unless` meets its contract. Assumes nothing.
use mathlib.Core.Path.{ap, ◌∙◌}
use Rattle.cases.specs.Refusals.{refusal_says}
use Rattle.semantics.proofs.Refusing.{unless_well, unless_ill}
use Rattle.semantics.proofs.refusals.refused_unless.Goals as goal

pub returns-then-well : goal.returns-then-well
returns-then-well c = search unless_well

pub returns-else-well : goal.returns-else-well
returns-else-well c = ap refusal_says c.at.ensures ∙ search unless_ill
