-- `judge::totalling::total_case` meets its contract. Assumes nothing.
use Rattle.judge.proofs.Totals.{node_totalled}
use Rattle.judge.proofs.totalling.total_case.Goals as goal

pub returns : goal.returns
returns c = search node_totalled
