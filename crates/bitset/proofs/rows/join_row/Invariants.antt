-- `bitset::rows::join_row` meets its contract. Assumes nothing.
use Rattle.bitset.proofs.Making.{RowAddedTo}
use Rattle.bitset.proofs.rows.join_row.Given as goal

abbrev pub invariant-loop-i : goal.invariant-loop-i
invariant-loop-i l = RowAddedTo l.u l.w l.r l.s l.i l.initial.t l.t
