-- `judge::supporting::support_read` meets its contract. Assumes nothing.
use Rattle.std.proofs.lemmas.Result.{err_from_is_err_and}
use Rattle.judge.proofs.OldChecks.{old_unread, old_short, old_values_there, old_read}
use Rattle.judge.proofs.supporting.support_read.Goals as goal

pub returns-in_err-counts : goal.returns-in_err-counts
returns-in_err-counts c =
    let p = err_from_is_err_and c.from_residual.result c.from_residual.ensures.1 in
    rw (p.1, p.2) (old_unread c.args.values.now _ c.in_err-counts.ensures)

pub returns-in_err-long_enough : goal.returns-in_err-long_enough
returns-in_err-long_enough c =
    let p = err_from_is_err_and c.from_residual-in_err-long_enough.result c.from_residual-in_err-long_enough.ensures.1 in
    rw (p.1, p.2) (old_short c.args.values.now c.in_ok-counts.ensures _ c.in_err-long_enough.ensures)

pub check_proposal-requires-clause-nodes_in_bounds : goal.check_proposal-requires-clause-nodes_in_bounds
check_proposal-requires-clause-nodes_in_bounds c = old_values_there c.args.values.now c.in_ok-counts.ensures c.in_ok-long_enough.ensures

pub returns : goal.returns
returns c = old_read c.args.values.now c.in_ok-counts.ensures c.in_ok-long_enough.ensures _ c.check_proposal.ensures
