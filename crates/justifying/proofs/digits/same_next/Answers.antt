-- `justifying::digits::same_next` meets its contract. Assumes nothing.
use Rattle.justifying.proofs.InDigits.{same_one}
use Rattle.justifying.proofs.digits.same_next.Goals as goal

pub returns-then-one : goal.returns-then-one
returns-then-one c = search same_one
