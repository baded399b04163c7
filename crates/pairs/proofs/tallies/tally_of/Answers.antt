use Rattle.std.proofs.Common.{rules}
use native.Mathlib.Omega.{arith}
use Rattle.pairs.proofs.Tallying.{tallied_none, tallied_more, tallied_fits, bytes_tallied}
use Rattle.pairs.proofs.tallies.tally_of.Goals as goal

pub loop-i-init : goal.loop-i-init
loop-i-init c = search tallied_none

pub overflow_add-count : goal.overflow_add-count
overflow_add-count c = tallied_fits (search rules) c.args.n (search rules) (search (rules, arith)) c.loop-i.invariant

pub loop-i-preserved : goal.loop-i-preserved
loop-i-preserved c = search (tallied_more, rules)

pub returns : goal.returns
returns c = bytes_tallied c.args.bytes.now c.requires (omega arith) (omega arith) c.loop-i.invariant
