use mathlib.Core.Path.{refl}
use Rattle.adding.proofs.Chosen.{chosen_none}
use Rattle.adding.proofs.choosing.choose.Goals as goal

pub loop-i-init : goal.loop-i-init
loop-i-init c = (search chosen_none, refl)
