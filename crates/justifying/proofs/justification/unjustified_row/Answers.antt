use Rattle.std.proofs.Common.{rules}
use Rattle.cases.proofs.Faulted.{refused_some}
use Rattle.support.proofs.Passing.{refused_on}
use Rattle.justifying.proofs.Justified.{justified_node, justified_more, justified_first, justified_all}
use Rattle.justifying.proofs.justification.unjustified_row.Goals as goal

pub is_justified-justified-requires-clause-a_lt_nodes : goal.is_justified-justified-requires-clause-a_lt_nodes
is_justified-justified-requires-clause-a_lt_nodes c = search (justified_node, rules)

pub returns-in_err-refused_unless : goal.returns-in_err-refused_unless
returns-in_err-refused_unless c =
    let e = c.in_err-refused_unless.ensures in rw (refused_on _ c.from_residual.result c.from_residual.ensures.1) (search (justified_first, refused_some, rules))

pub loop-k-preserved : goal.loop-k-preserved
loop-k-preserved c = let e = c.in_ok-refused_unless.ensures in search (justified_more c.loop-k.invariant, rules)

pub returns : goal.returns
returns c = search (justified_all, rules)
