-- `judge::checking::short_tables` meets its contract: 10, then 11. Assumes nothing.
use Rattle.std.proofs.lemmas.Result.{err_from_is_err_and}
use Rattle.judge.proofs.Checks.{first_refuses_so, then_second}
use Rattle.judge.proofs.checking.short_tables.Goals as goal

pub returns-in_err-long_enough : goal.returns-in_err-long_enough
returns-in_err-long_enough c =
    let p = err_from_is_err_and c.from_residual.result c.from_residual.ensures.1 in
    rw (p.1, p.2) (first_refuses_so _ _ _ c.in_err-long_enough.ensures)

pub returns : goal.returns
returns c = then_second _ _ c.in_ok-long_enough.ensures c.long_enough-2.ensures
