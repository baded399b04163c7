-- `support::proposing::support_fault` meets its contract. The invariant: the pairs of the shapes below s are supported. Assumes nothing.
use Rattle.support.proofs.Supported.{SupportedRows}
use Rattle.support.proofs.proposing.support_fault.Given as goal

abbrev pub invariant-loop-s : goal.invariant-loop-s
invariant-loop-s l = SupportedRows l.counts l.rows l.sets l.values l.s
