-- `parts::expanding::renumbered_reference` meets its contract. Assumes nothing.
use Rattle.std.proofs.Common.{rules}
use Rattle.parts.specs.Expanding.{renumbered_reference}
use borrow.Author.Tests.{lt-ltb, le-ltb}
use Rattle.parts.proofs.expanding.renumbered_reference.Goals as goal

pub returns-then-reference-lt256 : goal.returns-then-reference-lt256
unfolding renumbered_reference
returns-then-reference-lt256 c = search (lt-ltb, rules)

pub returns : goal.returns
unfolding renumbered_reference
returns c = search (le-ltb, rules)
