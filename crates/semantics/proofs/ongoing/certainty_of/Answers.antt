-- `semantics::ongoing::certainty_of` meets its contract. Assumes nothing.
use native.Mathlib.Omega.{arith}
use Rattle.semantics.proofs.Certain.{sure_said, impossible_said, open_said, not_yet_said}
use Rattle.semantics.proofs.ongoing.certainty_of.Goals as goal

pub returns-then-value-ge2 : goal.returns-then-value-ge2
returns-then-value-ge2 c = search sure_said

pub returns-then-value-eq0 : goal.returns-then-value-eq0
returns-then-value-eq0 c = search (impossible_said, arith)

pub returns-then-over : goal.returns-then-over
returns-then-over c = search (open_said, arith)

pub returns : goal.returns
returns c = search (not_yet_said, arith)
