-- `adding::candidates::first_unknown` meets its contract. The invariant: the candidates below i are known. Assumes nothing.
use Rattle.semantics.proofs.Refusing.{Well}
use Rattle.adding.specs.Candidates.{unknown_at}
use Rattle.adding.proofs.candidates.first_unknown.Given as goal

abbrev pub invariant-loop-i : goal.invariant-loop-i
invariant-loop-i l = Well (unknown_at l.list l.nodes) l.i
