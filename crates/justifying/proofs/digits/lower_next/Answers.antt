-- `justifying::digits::lower_next` meets its contract. Assumes nothing.
use Rattle.justifying.proofs.InDigits.{lower_one}
use Rattle.justifying.proofs.digits.lower_next.Goals as goal

pub returns-then-one : goal.returns-then-one
returns-then-one c = search lower_one
