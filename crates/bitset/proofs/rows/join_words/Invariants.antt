-- `bitset::rows::join_words` meets its contract. The invariant: the first i words are joined, all others are as they were. Assumes nothing.
use Rattle.bitset.proofs.Members.{JoinedTo}
use Rattle.bitset.proofs.rows.join_words.Given as goal

abbrev pub invariant-loop-i : goal.invariant-loop-i
invariant-loop-i l = JoinedTo l.initial.t l.w l.into l.from l.i l.t
