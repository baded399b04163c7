-- `cases::rows::put_row` meets its contract: four stores. Assumes nothing.
use Rattle.std.proofs.Common.{rules}
use Rattle.cases.specs.Rows.{put_row}
use lib.ListN.{length-set}
use native.Mathlib.Omega.{arith}
use Rattle.cases.proofs.rows.put_row.Goals as goal

pub bounds-rows-at-2 : goal.bounds-rows-at-2
bounds-rows-at-2 c = simp length-set (omega arith)

pub bounds-rows-at-3 : goal.bounds-rows-at-3
bounds-rows-at-3 c = simp length-set (omega arith)

pub bounds-rows-at-4 : goal.bounds-rows-at-4
bounds-rows-at-4 c = simp length-set (omega arith)

pub returns : goal.returns
unfolding put_row
returns c = search rules
