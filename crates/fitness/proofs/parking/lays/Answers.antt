-- `fitness::parking::lays` meets its contract: code and operands are tested, in any order. Assumes nothing.
use Rattle.std.proofs.Common.{arith}
use Rattle.std.proofs.lemmas.Bool.Decides.{nat_tests}
use Rattle.cases.specs.Case.{edge_is}
use Rattle.fitness.proofs.parking.lays.Goals as goal

pub returns-then-ne : goal.returns-then-ne
unfolding edge_is
returns-then-ne c = grind (arith, nat_tests)

pub returns-then-ne-2 : goal.returns-then-ne-2
unfolding edge_is
returns-then-ne-2 c = grind (arith, nat_tests)

pub returns-then-eq : goal.returns-then-eq
unfolding edge_is
returns-then-eq c = grind (arith, nat_tests)

pub returns-else-eq : goal.returns-else-eq
unfolding edge_is
returns-else-eq c = grind (arith, nat_tests)
