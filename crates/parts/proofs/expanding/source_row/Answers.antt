-- `parts::expanding::source_row` meets its contract. Assumes nothing.
use Rattle.parts.specs.Expanding.{source_row}
use borrow.Author.Tests.{lt-ltb, le-ltb}
use Rattle.parts.proofs.expanding.source_row.Goals as goal

pub returns-then-i-written : goal.returns-then-i-written
unfolding source_row
returns-then-i-written c = rw (lt-ltb _ _ c.if-i-written.true) c.row_in.ensures

pub returns : goal.returns
unfolding source_row
returns c = rw (le-ltb _ _ c.if-i-written.false) c.row_in-2.ensures
