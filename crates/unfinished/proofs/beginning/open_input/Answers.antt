-- `unfinished::beginning::open_input` meets its contract. Assumes nothing.
use mathlib.Core.Path.{ap}
use mathlib.Core.List.{◌++◌}
use lib.ListN.{length, drop, replicate}
use Rattle.unfinished.proofs.Opening.{input_opened}
use Rattle.unfinished.proofs.beginning.open_input.Goals as goal

pub returns : goal.returns
returns c =
    let s = c.args.input.now in
    input_opened s c.args.pairs c.requires (ap (λ held. held ++ drop (length s) (replicate 8192 0)) c.copy_from_slice.ensures.after)
