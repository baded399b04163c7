-- `judge::solving::solve_case` meets its contract. Assumes nothing.
use Rattle.judge.proofs.Solves.{case_solved}
use Rattle.judge.proofs.solving.solve_case.Goals as goal

pub returns : goal.returns
returns c = search case_solved
