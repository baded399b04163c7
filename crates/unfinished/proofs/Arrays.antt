-- The arrays of a state have the lengths of their type, whatever they hold. Assumes nothing.
use mathlib.Core.Path.{◌≡◌}
use mathlib.Core.List.{List}
use lib.ListN.{length}
use mir.Val.{Val}
use denote.Laws.{Is}
use denote.Struct.Declared.{row}
use Rattle.semantics.specs.declared.ongoing.Unfinished.{Unfinished}
use Rattle.semantics.specs.contracts.ongoing.Unfinished.{the_type}

pub record Lengths (u : Unfinished) : Type 0 where
  pub bytes : length u.bytes ≡ 8192
  pub values : length u.values ≡ 4096

pub lengths : (u : Unfinished) {vs : List Val} → Is (row the_type) u vs → Lengths u
lengths u g = record { bytes = g.1.1.0.1.0.1; values = g.1.1.1.1.0.1.0.1 }
