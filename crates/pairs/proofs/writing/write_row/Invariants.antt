-- `pairs::writing::write_row` meets its contract. The invariant: the values of the nodes below a are put. Assumes nothing.
use Prim.Native.Nat.{◌+◌, ◌*◌}
use Rattle.fixpoint.specs.Entries.{Put}
use Rattle.pairs.specs.Values.{value_in}
use Rattle.pairs.proofs.writing.write_row.Given as goal

abbrev pub invariant-loop-a : goal.invariant-loop-a
invariant-loop-a l = Put (value_in l.size l.valid l.possible) (l.s.0 * l.size.nodes) (l.s.0 * l.size.nodes + l.a) l.initial.values l.values
