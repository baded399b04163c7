-- `bitset::rows::count_words` meets its contract. The invariant: n counts the common members in the first i words. Assumes nothing.
use Rattle.bitset.proofs.Members.{CountedTo}
use Rattle.bitset.proofs.rows.count_words.Given as goal

abbrev pub invariant-loop-i : goal.invariant-loop-i
invariant-loop-i l = CountedTo l.t l.r l.u l.s l.w l.i l.n
