use native.Mathlib.Omega.{arith}
use Rattle.justifying.proofs.InDigits.{compared_none, compared_above, compared_more, compared_done}
use Rattle.justifying.proofs.digits.lower_in.Goals as goal

pub returns-then-bound-used-ne0 : goal.returns-then-bound-used-ne0
returns-then-bound-used-ne0 c = search compared_above

pub loop-k-init : goal.loop-k-init
loop-k-init c = search compared_none

pub loop-k-preserved : goal.loop-k-preserved
loop-k-preserved c = search compared_more

pub returns : goal.returns
returns c = search (compared_done, arith)
