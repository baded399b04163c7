-- `semantics::ongoing::held_value` meets its contract. Assumes nothing.
use Rattle.semantics.proofs.Certain.{held}
use Rattle.semantics.proofs.ongoing.held_value.Goals as goal

pub returns : goal.returns
returns c = rw (c.unwrap_or.ensures, c.of_byte.ensures.said) (held c.args.byte)
