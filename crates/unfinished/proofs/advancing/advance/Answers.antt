-- `unfinished::advancing::advance` meets its contract. Assumes nothing.
use mathlib.Core.Path.{◌∙◌}
use Rattle.unfinished.proofs.Holding.{byte_of, advance_told}
use Rattle.unfinished.proofs.advancing.advance.Goals as goal

pub returns : goal.returns
returns c = advance_told c.args.u c.go_on-after.ensures (c.from.ensures ∙ byte_of _)
