-- `pairs::tallies::tally_targets` meets its contract. Assumes nothing.
use native.Mathlib.Omega.{arith}
use Rattle.std.proofs.Common.{rules}
use borrow.Author.Tests.{tests}
use Rattle.std.proofs.lemmas.Iterator.{YieldsList-from_range}
use Rattle.std.proofs.lemmas.Iterator.Consumers.{YieldsList-from_filter, count_from_yields_List}
use Rattle.pairs.proofs.Tallying.{targets_tallied}
use Rattle.pairs.proofs.tallies.tally_targets.Goals as goal

pub returns : goal.returns
returns c =
    targets_tallied c.args.counts c.args.rows.now c.args.values.now c.args.v.0
    (count_from_yields_List _ _ c.count.ensures.ran
    (YieldsList-from_filter _ _ (YieldsList-from_range 0 c.args.counts.targets c.args.counts.targets c.filter.ensures.source (omega arith)) c.filter.ensures.closure
    (λ x b q k. search (rules, tests))))
