-- `finding::commands::with_room` meets its contract. Assumes nothing.
use borrow.Author.Tests.{le-leb, lt-leb}
use Rattle.finding.specs.Finding.{with_room}
use Rattle.finding.proofs.commands.with_room.Goals as goal
use Rattle.finding.proofs.commands.with_room.Goals.{else-is_shape-via-then-is_shape+else-shape_limit-shapes, else-is_shape-via-else-is_shape}

pub returns-then-shape_limit-shapes : goal.returns-then-shape_limit-shapes
unfolding with_room
returns-then-shape_limit-shapes c =
    rw (← c.is_shape.ensures, c.if-is_shape.true, ← c.shape_limit.ensures, le-leb _ _ c.if-shape_limit-shapes.true)

pub returns : goal.returns
unfolding with_room
returns c = elim c.else-is_shape.branch [
  | else-is_shape-via-then-is_shape+else-shape_limit-shapes w ↦
      rw (← c.is_shape.ensures, w.if-is_shape.true, ← w.shape_limit.ensures, lt-leb _ _ w.if-shape_limit-shapes.false)
  | else-is_shape-via-else-is_shape w ↦ rw (← c.is_shape.ensures, w.if-is_shape.false)
]
