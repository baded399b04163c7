-- `justifying::digits::fill_digits` meets its contract. The invariant: the levels of the nodes below a are there. Assumes nothing.
use Rattle.justifying.proofs.InDigits.{DigitsFilledTo}
use Rattle.justifying.proofs.digits.fill_digits.Given as goal

abbrev pub invariant-loop-a : goal.invariant-loop-a
invariant-loop-a l = DigitsFilledTo l.levels l.size l.s.0 l.initial.digits l.digits l.most l.a
