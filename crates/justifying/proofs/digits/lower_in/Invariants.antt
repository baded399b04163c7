-- `justifying::digits::lower_in` meets its contract. The invariant: all but the last k digits are compared. Assumes nothing.
use Rattle.justifying.proofs.InDigits.{ComparedTo}
use Rattle.justifying.proofs.digits.lower_in.Given as goal

abbrev pub invariant-loop-k : goal.invariant-loop-k
invariant-loop-k l = ComparedTo l.digits l.w l.used l.i l.bound l.k l.lower l.same
