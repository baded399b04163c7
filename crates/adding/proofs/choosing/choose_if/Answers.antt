-- `adding::choosing::choose_if` meets its contract: the candidate's row is put behind the others, or nothing is. Assumes nothing.
use Rattle.adding.proofs.Chosen.{chosen_skipped, chosen_taken}
use Rattle.adding.proofs.choosing.choose_if.Goals as goal

pub returns-then-has_bit : goal.returns-then-has_bit
returns-then-has_bit c = search chosen_taken

pub returns : goal.returns
returns c = search chosen_skipped
