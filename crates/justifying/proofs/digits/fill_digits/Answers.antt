use Rattle.std.proofs.Common.{rules}
use native.Mathlib.Omega.{arith}
use Rattle.justifying.proofs.InDigits.{digits_filled_more, digits_filled_done}
use Rattle.justifying.proofs.digits.fill_digits.Goals as goal

pub loop-a-preserved : goal.loop-a-preserved
loop-a-preserved c = search (digits_filled_more, rules)

pub returns : goal.returns
returns c = search (digits_filled_done, arith)
