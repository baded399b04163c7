-- `parts::heads::at_most_head` meets its contract: 6, 7, or the at least. Assumes nothing.
use Rattle.cases.specs.Parts.{at_most_head}
use borrow.Author.Tests.{lt-ltb, le-ltb}
use Rattle.parts.proofs.heads.at_most_head.Goals as goal

pub returns-then-paths-from : goal.returns-then-paths-from
unfolding at_most_head
returns-then-paths-from c = rw (← c.from.ensures, le-ltb _ _ c.if-paths-from.true)

pub returns-then-row-ge255 : goal.returns-then-row-ge255
unfolding at_most_head
returns-then-row-ge255 c = rw (← c.from.ensures, lt-ltb _ _ c.if-paths-from.false, le-ltb _ _ c.if-row-ge255.true)

pub returns : goal.returns
unfolding at_most_head
returns c = rw (← c.from.ensures, lt-ltb _ _ c.if-paths-from.false, lt-ltb _ _ c.if-row-ge255.false)
