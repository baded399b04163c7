-- `pairs::tallies::tally_of` meets its contract. The invariant: the bytes below i are counted. Assumes nothing.
use lib.ListN.{get_or}
use Rattle.pairs.proofs.Tallying.{Tallied}
use Rattle.pairs.proofs.tallies.tally_of.Given as goal

abbrev pub invariant-loop-i : goal.invariant-loop-i
invariant-loop-i l = Tallied (λ k. get_or l.bytes k 0) l.v.0 l.i l.count
