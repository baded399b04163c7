use Rattle.pairs.proofs.Tallying.{verdicts_written}
use Rattle.pairs.proofs.writing.write_verdicts.Goals as goal

pub returns : goal.returns
returns c = search verdicts_written
