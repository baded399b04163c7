use Rattle.bitset.proofs.Members.{zeros_cleared}
use Rattle.bitset.proofs.rows.clear.Goals as goal

pub returns : goal.returns
returns c = zeros_cleared (c.fill.ensures.after (λ y h. h))
