-- `Value::of_byte` meets its contract: a byte of at most 2 says itself. Assumes nothing.
use borrow.Author.Tests.{le-leb, lt-leb}
use Rattle.std.proofs.Common.{rules}
use Rattle.semantics.specs.Values.{byte_says}
use Rattle.semantics.proofs.value.Value.of_byte.Goals as goal

pub returns-then-byte-le2 : goal.returns-then-byte-le2
unfolding byte_says
returns-then-byte-le2 c = search (le-leb, rules)

pub returns-else-byte-le2 : goal.returns-else-byte-le2
unfolding byte_says
returns-else-byte-le2 c = search (lt-leb, rules)
