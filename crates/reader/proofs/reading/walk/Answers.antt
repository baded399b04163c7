use native.Mathlib.Omega.{arith}
use mathlib.Core.Path.{refl, sym, ◌∙◌}
use Rattle.std.proofs.lemmas.Result.{IfErr-at_err}
use Rattle.reader.proofs.Walking.{going_none, going_over, row_room, find_room, going_refused, end_room, going_ended, store_room, taken_fits, taken_some, going_more}
use Rattle.reader.proofs.reading.walk.Goals as goal

pub loop-at-init : goal.loop-at-init
loop-at-init c = (search (going_none, arith), refl)

pub slice_bounds-find-end-in-loop-at : goal.slice_bounds-find-end-in-loop-at
slice_bounds-find-end-in-loop-at c = sym c.loop-at.invariant.0.fresh_long

pub slice_bounds-find-end-in-loop-at-2 : goal.slice_bounds-find-end-in-loop-at-2
slice_bounds-find-end-in-loop-at-2 c = sym c.loop-at.invariant.0.named_long

pub find-found-requires-clause-find_room : goal.find-found-requires-clause-find_room
find-found-requires-clause-find_room c = find_room c.loop-at.invariant.0 c.loop-at-test.true

pub find-found-requires-clause-row_room : goal.find-found-requires-clause-row_room
find-found-requires-clause-row_room c = row_room c.loop-at.invariant.0

pub shape_of-rows-in_default : goal.shape_of-rows-in_default
shape_of-rows-in_default c = c.loop-at.invariant.1

pub returns-in_default : goal.returns-in_default
returns-in_default c =
    rw (IfErr-at_err _ c.in_default.is c.refused.ensures)
    (going_refused c.loop-at.invariant.0 c.loop-at-test.true c.find-found.ensures c.in_default.is)

pub overflow_add-at : goal.overflow_add-at
overflow_add-at c = omega (arith, c.loop-at-test.true, c.well_formed)

pub slice_bounds-ended-end : goal.slice_bounds-ended-end
slice_bounds-ended-end c = sym (c.find-found.ensures.found.fresh_long ∙ c.loop-at.invariant.0.fresh_long)

pub slice_bounds-ended-end-then-is_end : goal.slice_bounds-ended-end-then-is_end
slice_bounds-ended-end-then-is_end c = sym (c.find-found.ensures.found.named_long ∙ c.loop-at.invariant.0.named_long)

pub ended-requires : goal.ended-requires
ended-requires c = end_room c.loop-at.invariant.0 c.loop-at-test.true c.find-found.ensures c.in-Ok.is

pub shape_of-rows-then-is_end : goal.shape_of-rows-then-is_end
shape_of-rows-then-is_end c = c.ended.ensures.long ∙ c.loop-at.invariant.1

pub returns-then-is_end : goal.returns-then-is_end
returns-then-is_end c =
    going_ended c.loop-at.invariant.0 c.loop-at-test.true c.find-found.ensures c.in-Ok.is
    c.is_end.ensures c.if-is_end.true c.ended.ensures

pub store-counts-requires : goal.store-counts-requires
store-counts-requires c = search store_room

pub overflow_add-at-in-loop-at : goal.overflow_add-at-in-loop-at
overflow_add-at-in-loop-at c =
    omega (arith, c.well_formed, taken_fits c.loop-at.invariant.0 c.loop-at-test.true c.find-found.ensures c.in-Ok.is)

pub loop-at-smaller : goal.loop-at-smaller
loop-at-smaller c = omega (arith, taken_some c.loop-at.invariant.0 c.loop-at-test.true c.find-found.ensures c.in-Ok.is)

pub loop-at-preserved : goal.loop-at-preserved
loop-at-preserved c =
    let g = c.loop-at.invariant in (
      going_more g.0 c.loop-at-test.true c.find-found.ensures c.in-Ok.is c.is_end.ensures
          c.if-is_end.false c.store-counts.ensures,
      c.store-counts.ensures.long ∙ g.1,
    )

pub shape_of-rows : goal.shape_of-rows
shape_of-rows c = c.loop-at.invariant.1

pub returns : goal.returns
returns c = rw c.at.ensures (going_over c.loop-at.invariant.0 c.loop-at-test.false)
