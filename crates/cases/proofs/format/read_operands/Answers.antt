-- `cases::format::read_operands` meets its contract: the test of the length is whether the input has all its bytes. Assumes nothing.
use Rattle.std.proofs.Common.{rules}
use borrow.Author.Tests.{lt-leb, le-leb}
use Rattle.cases.specs.Format.{operands_by}
use Rattle.cases.proofs.format.read_operands.Goals as goal

pub returns-then-part-end : goal.returns-then-part-end
unfolding operands_by
returns-then-part-end c = search (lt-leb, rules)

pub returns : goal.returns
unfolding operands_by
returns c = rw (c.number_at-x.ensures, c.number_at-y.ensures, c.number_at-z.ensures) (search (le-leb, rules))
