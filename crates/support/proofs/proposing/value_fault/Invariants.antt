-- `support::proposing::value_fault` meets its contract. The invariant: the bytes below k say values. Assumes nothing.
use Rattle.semantics.proofs.Refusing.{Well}
use Rattle.support.proofs.ValueFaults.{unvalued}
use Rattle.support.proofs.proposing.value_fault.Given as goal

abbrev pub invariant-loop-k : goal.invariant-loop-k
invariant-loop-k l = Well (unvalued l.values) l.k-counter
