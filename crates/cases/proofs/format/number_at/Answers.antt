-- `cases::format::number_at` meets its contract: two bytes, low byte first, are below 2 ^ 16. Assumes nothing.
use Rattle.std.proofs.Common.{rules}
use Prim.Native.Nat.{◌+◌}
use native.Mathlib.Omega.{arith}
use borrow.Author.Tests.{eq-eqb, ne_eqb}
use Rattle.cases.specs.Format.{number_at}
use Rattle.cases.proofs.format.number_at.Goals as goal

pub returns-then-width-eq0 : goal.returns-then-width-eq0
unfolding number_at
returns-then-width-eq0 c = search (eq-eqb, ne_eqb, rules)

pub returns-then-width-eq1 : goal.returns-then-width-eq1
unfolding number_at
returns-then-width-eq1 c = search (eq-eqb, ne_eqb, rules)

pub overflow_mul-result : goal.overflow_mul-result
unfolding number_at
overflow_mul-result c = omega (arith, c.type_inv.part (c.args.at + 1))

pub overflow_add-result : goal.overflow_add-result
unfolding number_at
overflow_add-result c = omega (arith, c.type_inv.part c.args.at, c.type_inv.part (c.args.at + 1))

pub returns : goal.returns
unfolding number_at
returns c = search (eq-eqb, ne_eqb, rules)
