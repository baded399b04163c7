-- `bitset::rows::copy_words` meets its contract. The invariant: the first i words are copied. Assumes nothing.
use Rattle.bitset.specs.Words.{WordsCopied}
use Rattle.bitset.proofs.rows.copy_words.Given as goal

abbrev pub invariant-loop-i : goal.invariant-loop-i
invariant-loop-i l = WordsCopied l.u l.from l.at l.i l.initial.t l.t
