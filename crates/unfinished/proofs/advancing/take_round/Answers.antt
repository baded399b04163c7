-- `unfinished::advancing::take_round` meets its contract. Assumes nothing.
use Rattle.std.proofs.Common.{rules}
use native.Mathlib.Omega.{arith}
use mathlib.Core.Path.{◌∙◌}
use Rattle.unfinished.proofs.Arrays.{lengths}
use Rattle.unfinished.proofs.Holding.{byte_of, counts_held, cut_length, round_taken}
use Rattle.unfinished.proofs.advancing.take_round.Goals as goal

pub slice_bounds-bytes-end : goal.slice_bounds-bytes-end
slice_bounds-bytes-end c =
    let l = lengths c.args.u c.well_formed.0 in
    search rules

pub slice_bounds-parse-end : goal.slice_bounds-parse-end
slice_bounds-parse-end c =
    let l = lengths c.args.u c.well_formed.0 in
    let e = cut_length c.args.u l.bytes c.min-n.ensures in
    search (rules, e)

pub work_round-over-requires-clause-case_in : goal.work_round-over-requires-clause-case_in
work_round-over-requires-clause-case_in c =
    let counts = counts_held c.parse.result c.default.ensures c.unwrap_or-counts.ensures in
    rw counts c.parse.ensures.held

pub work_round-over-requires-clause-nodes_in_bounds : goal.work_round-over-requires-clause-nodes_in_bounds
work_round-over-requires-clause-nodes_in_bounds c =
    let l = lengths c.args.u c.well_formed.0 in
    let counts = counts_held c.parse.result c.default.ensures c.unwrap_or-counts.ensures in
    rw counts (omega (arith, l.values, c.parse.ensures.held.fit.pairs_few))

pub work_round-over-requires-clause-nodes_in_bounds_2 : goal.work_round-over-requires-clause-nodes_in_bounds_2
work_round-over-requires-clause-nodes_in_bounds_2 c =
    let l = lengths c.args.u c.well_formed.0 in
    let counts = counts_held c.parse.result c.default.ensures c.unwrap_or-counts.ensures in
    rw counts (omega (arith, l.values, c.parse.ensures.held.fit.pairs_few))

pub returns : goal.returns
returns c =
    let l = lengths c.args.u c.well_formed.0 in
    let counts = counts_held c.parse.result c.default.ensures c.unwrap_or-counts.ensures in
    let worked = rw counts at c.work_round-over.ensures in
    round_taken c.args.u l.bytes c.min-n.ensures c.parse.ensures worked (c.from.ensures ∙ byte_of _)
