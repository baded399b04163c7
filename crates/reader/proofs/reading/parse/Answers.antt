-- `reader::reading::parse` meets its contract: a refusal of what the input begins with, or the walk. Assumes nothing.
use mathlib.Core.Path.{sym}
use Rattle.std.proofs.lemmas.Result.{IfErr-at_err}
use Rattle.reader.proofs.Walking.{heading_refused}
use Rattle.reader.proofs.reading.parse.Goals as goal

pub returns-in_default : goal.returns-in_default
returns-in_default c =
    rw (IfErr-at_err _ c.in_default.is c.refused.ensures) (heading_refused c.requires (rw c.in_default.is at c.heading-said.ensures))

pub walk-requires-clause-full : goal.walk-requires-clause-full
walk-requires-clause-full c = c.requires

pub walk-requires-clause-begun_value : goal.walk-requires-clause-begun_value
walk-requires-clause-begun_value c = sym (rw c.in-Ok.is at c.heading-said.ensures)
