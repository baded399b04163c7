-- `judge::checking::check_read` meets its contract. Assumes nothing.
use Rattle.std.proofs.lemmas.Result.{err_from_is_err_and}
use Rattle.judge.proofs.Checks.{check_unread, check_short, check_values_there, check_levels_there, check_read}
use Rattle.judge.proofs.checking.check_read.Goals as goal

pub returns-in_err-counts : goal.returns-in_err-counts
returns-in_err-counts c =
    let p = err_from_is_err_and c.from_residual.result c.from_residual.ensures.1 in
    rw (p.1, p.2) (check_unread c.args.values.now c.args.levels.now _ c.in_err-counts.ensures)

pub returns-in_err-short_tables : goal.returns-in_err-short_tables
returns-in_err-short_tables c =
    let p = err_from_is_err_and c.from_residual-in_err-short_tables.result c.from_residual-in_err-short_tables.ensures.1 in
    rw (p.1, p.2) (check_short c.args.values.now c.args.levels.now c.in_ok-counts.ensures _ c.in_err-short_tables.ensures)

pub check_proposal-requires-clause-nodes_in_bounds : goal.check_proposal-requires-clause-nodes_in_bounds
check_proposal-requires-clause-nodes_in_bounds c = check_values_there c.args.values.now c.args.levels.now c.in_ok-counts.ensures c.in_ok-short_tables.ensures

pub check_proposal-requires-clause-counts_in_bounds : goal.check_proposal-requires-clause-counts_in_bounds
check_proposal-requires-clause-counts_in_bounds c = check_levels_there c.args.values.now c.args.levels.now c.in_ok-counts.ensures c.in_ok-short_tables.ensures

pub returns : goal.returns
returns c = check_read c.args.values.now c.args.levels.now c.in_ok-counts.ensures c.in_ok-short_tables.ensures c.check_proposal.ensures
