use Rattle.justifying.proofs.InDigits.{inserted_row, inserted_done}
use Rattle.justifying.proofs.digits.insert_digits.Goals as goal

pub insert-requires-clause-has_row : goal.insert-requires-clause-has_row
insert-requires-clause-has_row c = let taken = c.in-Some.ensures.steps in let lowest = taken.lowest in search inserted_row

pub returns : goal.returns
returns c = inserted_done c.loop-k.invariant c.in-None.ensures.steps
