use native.Mathlib.Omega.{arith}
use Rattle.parts.proofs.Renumbering.{expanding_none, expanding_full, expanding_more, expanding_done}
use Rattle.parts.proofs.expanding.expand.Goals as goal

pub loop-i-init : goal.loop-i-init
loop-i-init c = search expanding_none

pub source_row-row-requires : goal.source_row-row-requires
source_row-row-requires c =
    let e = c.loop-i.invariant in
    record { full = expanding_full e; i_bound = omega (arith, e.room); i_in_bounds = omega (arith, e.room) }

pub put_row-requires : goal.put_row-requires
put_row-requires c = omega (arith, c.loop-i.invariant.room, expanding_full c.loop-i.invariant)

pub loop-i-preserved : goal.loop-i-preserved
loop-i-preserved c =
    expanding_more c.loop-i.invariant c.source_row-row.ensures
    c.renumbered_row.ensures c.loop-i-test.true c.put_row.ensures

pub shape_of-rows : goal.shape_of-rows
shape_of-rows c = c.loop-i.invariant.long

pub returns : goal.returns
returns c = search expanding_done
