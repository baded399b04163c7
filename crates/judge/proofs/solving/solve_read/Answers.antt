-- `judge::solving::solve_read` meets its contract. Assumes nothing.
use Rattle.std.proofs.lemmas.Result.{err_from_is_err_and}
use Rattle.judge.proofs.Solves.{solve_unread, solve_short, solve_room, solve_read}
use Rattle.judge.proofs.solving.solve_read.Goals as goal

pub returns-in_err-counts : goal.returns-in_err-counts
returns-in_err-counts c =
    let p = err_from_is_err_and c.from_residual.result c.from_residual.ensures.1 in
    rw (p.1, p.2) (solve_unread c.args.values.now c.args.levels.now c.args.verdicts.now _ c.in_err-counts.ensures)

pub returns-in_err-short_tables : goal.returns-in_err-short_tables
returns-in_err-short_tables c =
    let p = err_from_is_err_and c.from_residual-in_err-short_tables.result c.from_residual-in_err-short_tables.ensures.1 in
    rw (p.1, p.2) (solve_short c.args.values.now c.args.levels.now c.args.verdicts.now c.in_ok-counts.ensures _ c.in_err-short_tables.ensures)

pub solve_case-requires-clause-solve_room : goal.solve_case-requires-clause-solve_room
solve_case-requires-clause-solve_room c =
    solve_room c.args.values.now c.args.levels.now c.args.verdicts.now c.in_ok-counts.ensures c.in_ok-short_tables.ensures

pub returns : goal.returns
returns c =
    solve_read c.args.values.now c.args.levels.now c.args.verdicts.now c.in_ok-counts.ensures c.in_ok-short_tables.ensures
    c.solve_case.ensures
