-- `judge::totalling::totals_read` meets its contract. Assumes nothing.
use Rattle.std.proofs.lemmas.Result.{err_from_is_err_and}
use Rattle.judge.proofs.Totals.{totals_unread, totals_unknown, node_known, totals_read}
use Rattle.judge.proofs.totalling.totals_read.Goals as goal

pub returns-in_err-counts : goal.returns-in_err-counts
returns-in_err-counts c =
    let p = err_from_is_err_and c.from_residual.result c.from_residual.ensures.1 in
    rw (p.1, p.2) (totals_unread c.args.node _ c.in_err-counts.ensures)

pub returns-in_err-refused_unless : goal.returns-in_err-refused_unless
returns-in_err-refused_unless c =
    let p = err_from_is_err_and c.from_residual-in_err-refused_unless.result c.from_residual-in_err-refused_unless.ensures.1 in
    rw (p.1, p.2) (totals_unknown c.args.node c.in_ok-counts.ensures _ c.in_err-refused_unless.ensures)

pub total_case-requires-clause-node_lt_nodes : goal.total_case-requires-clause-node_lt_nodes
total_case-requires-clause-node_lt_nodes c = node_known c.args.node c.in_ok-counts.ensures c.in_ok-refused_unless.ensures

pub returns : goal.returns
returns c = totals_read c.args.node c.in_ok-counts.ensures c.in_ok-refused_unless.ensures c.total_case.ensures
