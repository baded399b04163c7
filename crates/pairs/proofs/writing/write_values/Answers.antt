use Rattle.pairs.proofs.Valued.{values_written}
use Rattle.pairs.proofs.writing.write_values.Goals as goal

pub returns : goal.returns
returns c = search values_written
