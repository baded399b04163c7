-- `pairs::writing::write_values` meets its contract. The invariant: the values of the shapes below s are put. Assumes nothing.
use Prim.Native.Nat.{◌*◌}
use Rattle.fixpoint.specs.Entries.{Put}
use Rattle.cases.specs.Counts.{size_of}
use Rattle.pairs.specs.Values.{value_in}
use Rattle.pairs.proofs.writing.write_values.Given as goal

abbrev pub invariant-loop-s : goal.invariant-loop-s
invariant-loop-s l = Put (value_in (size_of l.fn.counts) l.valid l.possible) 0 (l.s * l.fn.counts.nodes) l.initial.values l.values
