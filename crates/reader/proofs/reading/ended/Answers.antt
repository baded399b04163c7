-- `reader::reading::ended` meets its contract: 8, 9, or the expansion. Assumes nothing.
use mathlib.Core.Path.{refl}
use Rattle.std.proofs.lemmas.Result.{err_from_is_err_and}
use Rattle.cases.proofs.Faulted.{fault_some}
use Rattle.reader.proofs.Walking.{ended_after, ended_unknown, ended_well}
use Rattle.reader.proofs.reading.ended.Goals as goal

pub returns-then-end-bytes : goal.returns-then-end-bytes
returns-then-end-bytes c = rw c.at.ensures (ended_after c.if-end-bytes.true)

pub returns-in_err-unknown_shape : goal.returns-in_err-unknown_shape
returns-in_err-unknown_shape c =
    let p = err_from_is_err_and c.from_residual.result c.from_residual.ensures.1 in
    rw (p.1, p.2) (ended_unknown c.if-end-bytes.false c.in_err-unknown_shape.ensures (fault_some _))

pub shape_of-rows : goal.shape_of-rows
shape_of-rows c = c.expand.ensures.long

pub returns : goal.returns
returns c = ended_well c.if-end-bytes.false c.in_ok-unknown_shape.ensures refl c.expand.ensures
