-- `adding::searching::selection_count` meets its contract: a shift of 1. Assumes nothing.
use mathlib.Core.Path.{refl}
use Rattle.adding.proofs.Keyed.{one_shifted}
use Rattle.adding.proofs.searching.selection_count.Goals as goal

pub returns : goal.returns
returns c = one_shifted c.requires refl
