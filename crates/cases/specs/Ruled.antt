-- A shape of a case with its rule and the size of the case's sets of nodes. Assumes nothing.
use Rattle.std.specs.Prelude.{ℕ, List}
use Rattle.cases.specs.declared.counts.Counts.{Counts}
use Rattle.cases.specs.declared.numbers.Shape.{Shape}
use Rattle.cases.specs.declared.ruled.Ruled.{Ruled}
use Rattle.cases.specs.Counts.{size_of}
use Rattle.cases.specs.Rows.{shape_in}

abbrev pub ruled_in : Counts → List ℕ → Shape → Ruled
ruled_in counts rows s = record { rule = shape_in rows s.0; shape = s; size = size_of counts }
