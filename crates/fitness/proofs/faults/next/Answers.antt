-- `fitness::faults::next` meets its contract: refusals 1 to 3 by the tests on the way, then what `judge` answers. Assumes nothing.
use Rattle.std.proofs.Common.{ap, not}
use Rattle.fitness.proofs.Judging.{step_unknown, step_disordered, step_cut, step_judged}
use Rattle.fitness.proofs.faults.next.Goals as goal

pub returns-then-group-eq7 : goal.returns-then-group-eq7
returns-then-group-eq7 c = search step_unknown

pub returns-then-not-in_order : goal.returns-then-not-in_order
returns-then-not-in_order c = search step_disordered

pub returns-in_default : goal.returns-in_default
returns-in_default c = search step_cut

pub returns : goal.returns
returns c =
    step_judged _ _ _ _ c.format_of-format.ensures c.taken_by-taken.ensures c.if-group-eq7.false c.in_order.ensures (ap not c.if-not-in_order.false)
    c.read_operands.ensures c.in-Some.is c.command_of-command.ensures c.judge.ensures
