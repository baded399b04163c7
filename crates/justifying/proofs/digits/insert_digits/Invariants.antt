-- `justifying::digits::insert_digits` meets its contract. The invariant: the node is in the rows of the digits that are not left. Assumes nothing.
use Rattle.justifying.proofs.InDigits.{InsertedBut}
use Rattle.justifying.proofs.digits.insert_digits.Given as goal

abbrev pub invariant-loop-k : goal.invariant-loop-k
invariant-loop-k l = InsertedBut l.k-iterator.0 l.initial.digits l.w l.a l.level l.digits
