-- `pairs::answering::write_answers` meets its contract. Assumes nothing.
use Rattle.pairs.proofs.Answered.{answers_written}
use mathlib.Core.Path.{refl}
use Rattle.pairs.proofs.answering.write_answers.Goals as goal

pub returns : goal.returns
returns c =
    answers_written c.requires.case_in c.write_values.ensures
    c.write_verdicts.ensures refl c.tally_answers.ensures
