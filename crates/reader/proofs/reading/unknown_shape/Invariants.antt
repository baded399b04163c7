-- `reader::reading::unknown_shape` meets its contract. The loop's invariant: all operands and those from `i` on have the same first unknown one. Assumes nothing.
use lib.ListN.{drop}
use mathlib.Core.Path.{◌≡◌}
use Prim.Native.Nat.{◌≤◌}
use Rattle.parts.specs.Tables.{named_in}
use Rattle.cases.specs.Reading.{unknown_shape}
use Rattle.reader.proofs.reading.unknown_shape.Given as goal

abbrev pub invariant-loop-i : goal.invariant-loop-i
invariant-loop-i l =
    (l.i ≤ l.count) × (unknown_shape l.shapes (named_in l.named l.count) ≡ unknown_shape l.shapes (drop l.i (named_in l.named l.count)))
