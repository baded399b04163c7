-- `adding::choosing::unparked_row` meets its contract: an 02 stays, another becomes one if it is chosen. Assumes nothing.
use Rattle.adding.proofs.Chosen.{laid_stays, parked_laid, unchosen_stays}
use Rattle.adding.proofs.choosing.unparked_row.Goals as goal

pub returns-then-edge-eq-LAID : goal.returns-then-edge-eq-LAID
returns-then-edge-eq-LAID c = search laid_stays

pub returns-then-is_laid : goal.returns-then-is_laid
returns-then-is_laid c = search parked_laid

pub returns : goal.returns
returns c = search unchosen_stays
