-- `support::proposing::unsupported_row` meets its contract. The invariant: the pairs at the nodes below a are supported. Assumes nothing.
use Rattle.support.proofs.Supported.{SupportedTo}
use Rattle.support.proofs.proposing.unsupported_row.Given as goal

abbrev pub invariant-loop-a : goal.invariant-loop-a
invariant-loop-a l = SupportedTo l.of l.sets l.values l.a
