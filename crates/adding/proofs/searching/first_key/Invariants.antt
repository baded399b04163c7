-- `adding::searching::first_key` meets its contract. The invariant: no key below this one is it. Assumes nothing.
use Rattle.adding.proofs.Keyed.{SearchingTo}
use Rattle.adding.proofs.searching.first_key.Given as goal

abbrev pub invariant-loop-key : goal.invariant-loop-key
invariant-loop-key l = SearchingTo l.asked l.key l.rows l.tables
