-- `adding::candidates::candidate_row` meets its contract: the operands stand one after another. Assumes nothing.
use Rattle.cases.specs.Format.{number_at}
use Rattle.semantics.specs.Adding.{candidate_at}
use Rattle.adding.proofs.candidates.candidate_row.Goals as goal

pub returns : goal.returns
unfolding candidate_at number_at
returns c = rw (c.number_at.ensures, c.number_at-2.ensures, c.number_at-3.ensures)
