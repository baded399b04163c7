-- `parts::readers::name_part` meets its contract: the shape is noted at the command's place. Assumes nothing.
use Rattle.parts.proofs.readers.name_part.Goals as goal

pub returns : goal.returns
returns c =
    let n = c.note_one-noted.ensures in
    record { is = rw n.counted; noted = rw (n.counted, c.from.ensures) at n }
