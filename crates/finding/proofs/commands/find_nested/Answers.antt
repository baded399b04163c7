-- `finding::commands::find_nested` meets its contract: 2, 4, then what the parts come to. Assumes nothing.
use Rattle.std.proofs.Common.{ap, not}
use Rattle.parts.proofs.Exits.{passed_on}
use Rattle.finding.proofs.Findings.{nested_disordered, nested_full, nested_room, nested_refused, nested_read}
use Rattle.finding.proofs.commands.find_nested.Goals as goal

pub returns-then-not-in_order : goal.returns-then-not-in_order
returns-then-not-in_order c = search nested_disordered

pub returns-then-shape_limit-counts : goal.returns-then-shape_limit-counts
returns-then-shape_limit-counts c = search nested_full

pub read_part-requires : goal.read_part-requires
read_part-requires c = search nested_room

pub returns-in_err-opened : goal.returns-in_err-opened
returns-in_err-opened c =
    nested_refused c.requires c.in_order.ensures (ap not c.if-not-in_order.false) c.shape_limit.ensures c.if-shape_limit-counts.false
    c.read_part.ensures c.in_err-opened.was (passed_on c.from_residual.result c.from_residual.ensures.1)

pub returns : goal.returns
returns c =
    nested_read c.requires c.in_order.ensures (ap not c.if-not-in_order.false) c.shape_limit.ensures c.if-shape_limit-counts.false
    c.read_part.ensures c.in_ok-opened.was c.part_finding.ensures
