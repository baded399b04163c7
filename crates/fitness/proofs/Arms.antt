-- What a test answers for one variant, where the answer goes by the variant's operands or by the counts. Assumes nothing.
use Prim.Native.Nat.{ℕ}
use mathlib.Core.Path.{◌≡◌}
use lib.Dec.{leb, ltb}
use Rattle.cases.specs.Faults.{within_limit, shape_least_positive}
use Rattle.cases.specs.declared.command.Command.{Command}
use Rattle.cases.specs.declared.command.Command.TheVariants.{Edge as EdgeCommand}
use Rattle.cases.specs.declared.command.Edge.{Edge}
use Rattle.cases.specs.declared.command.ShapeRule.{ShapeRule}
use Rattle.cases.specs.declared.command.ShapeRule.TheVariants.{AtLeast}
use Rattle.cases.specs.declared.counts.Counts.{Counts}
use Rattle.cases.specs.declared.numbers.Path.{Path}
use Rattle.cases.specs.declared.numbers.Shape.{Shape}

pub least_number : {r : ShapeRule} {n : ℕ} {p : Path} {s : Shape} → r ≡ AtLeast n p s → leb 1 n ≡ shape_least_positive r
least_number e = rw e

pub edges_below : (profile : ℕ) (k : Counts) {command : Command} {e : Edge} → command ≡ EdgeCommand e → ltb k.edges 1024 ≡ within_limit profile k command
edges_below profile k e = rw e
