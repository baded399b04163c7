-- `cases::counts::words_of` meets its contract. Assumes nothing.
use borrow.Author.Tests.{le-leb, lt-leb}
use Rattle.cases.specs.Counts.{words_of}
use Rattle.cases.proofs.counts.words_of.Goals as goal

pub returns-then-counts-le128 : goal.returns-then-counts-le128
unfolding words_of
returns-then-counts-le128 c = search le-leb

pub returns-then-counts-le256 : goal.returns-then-counts-le256
unfolding words_of
returns-then-counts-le256 c = search (le-leb, lt-leb)

pub returns : goal.returns
unfolding words_of
returns c = search lt-leb
