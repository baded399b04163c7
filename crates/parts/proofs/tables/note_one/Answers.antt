-- `parts::tables::note_one` meets its contract: two stores. Assumes nothing.
use Rattle.parts.proofs.Notes.{noted_one}
use Rattle.cases.proofs.PutRows.{two}
use lib.ListN.{length-set}
use native.Mathlib.Omega.{arith}
use Rattle.parts.proofs.tables.note_one.Goals as goal

pub bounds-named-at-2 : goal.bounds-named-at-2
bounds-named-at-2 c = simp length-set (omega arith)

pub returns : goal.returns
unfolding two
returns c = search noted_one
