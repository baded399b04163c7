-- `adding::choosing::lay_edges` meets its contract. The invariant: the edges below i are there. Assumes nothing.
use Rattle.adding.proofs.Chosen.{LayingEdges}
use Rattle.adding.proofs.choosing.lay_edges.Given as goal

abbrev pub invariant-loop-i : goal.invariant-loop-i
invariant-loop-i l = LayingEdges l.edges l.slice l.n l.chosen l.initial.rows l.i l.rows
