-- `judge::ranking::rank_read` meets its contract. Assumes nothing.
use Rattle.std.proofs.lemmas.Result.{err_from_is_err_and}
use Rattle.judge.proofs.Ranks.{ranked_shapes_there, rank_unread, rank_short, strata_there, rank_read}
use Rattle.judge.proofs.ranking.rank_read.Goals as goal

pub returns-in_err-counts : goal.returns-in_err-counts
returns-in_err-counts c =
    let p = err_from_is_err_and c.from_residual.result c.from_residual.ensures.1 in
    rw (p.1, p.2) (rank_unread c.args.strata.now _ c.in_err-counts.ensures)

pub returns-in_err-long_enough : goal.returns-in_err-long_enough
returns-in_err-long_enough c =
    let p = err_from_is_err_and c.from_residual-in_err-long_enough.result c.from_residual-in_err-long_enough.ensures.1 in
    rw (p.1, p.2) (rank_short c.args.strata.now c.in_ok-counts.ensures _ c.in_err-long_enough.ensures)

pub rank_shapes-requires-clause-shapes_in : goal.rank_shapes-requires-clause-shapes_in
rank_shapes-requires-clause-shapes_in c = ranked_shapes_there c.in_ok-counts.ensures.held

pub rank_shapes-requires-clause-shapes_in_bounds : goal.rank_shapes-requires-clause-shapes_in_bounds
rank_shapes-requires-clause-shapes_in_bounds c = strata_there c.args.strata.now c.in_ok-counts.ensures c.in_ok-long_enough.ensures

pub returns-in_err-count : goal.returns-in_err-count
returns-in_err-count c =
    let p = err_from_is_err_and c.from_residual-in_err-count.result c.from_residual-in_err-count.ensures.1 in
    rw (p.1, p.2) (rank_read c.args.strata.now c.in_ok-counts.ensures c.in_ok-long_enough.ensures c.in_err-count.ensures)

pub returns : goal.returns
returns c = rw c.ranked.ensures (rank_read c.args.strata.now c.in_ok-counts.ensures c.in_ok-long_enough.ensures c.in_ok-count.ensures)
