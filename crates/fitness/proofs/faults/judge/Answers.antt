-- `fitness::faults::judge` meets its contract: the first test that fails decides. Assumes nothing.
use Rattle.std.proofs.Common.{ap, not}
use Rattle.cases.specs.Reading.{judged}
use Rattle.cases.proofs.Formats.{passed, failed}
use Rattle.fitness.proofs.faults.judge.Goals as goal

pub returns-then-not-within_limit : goal.returns-then-not-within_limit
unfolding judged
returns-then-not-within_limit c = rw (failed c.within_limit.ensures (ap not c.if-not-within_limit.true))

pub returns-then-not-nodes_known : goal.returns-then-not-nodes_known
unfolding judged
returns-then-not-nodes_known c =
    rw (passed c.within_limit.ensures (ap not c.if-not-within_limit.false), failed c.nodes_known.ensures (ap not c.if-not-nodes_known.true))

pub returns-then-not-paths_earlier : goal.returns-then-not-paths_earlier
unfolding judged
returns-then-not-paths_earlier c =
    rw (
      passed c.within_limit.ensures (ap not c.if-not-within_limit.false),
      passed c.nodes_known.ensures (ap not c.if-not-nodes_known.false),
      failed c.paths_earlier.ensures (ap not c.if-not-paths_earlier.true),
    )

pub returns-then-not-least_positive : goal.returns-then-not-least_positive
unfolding judged
returns-then-not-least_positive c =
    rw (
      passed c.within_limit.ensures (ap not c.if-not-within_limit.false),
      passed c.nodes_known.ensures (ap not c.if-not-nodes_known.false),
      passed c.paths_earlier.ensures (ap not c.if-not-paths_earlier.false),
      failed c.least_positive.ensures (ap not c.if-not-least_positive.true),
    )

pub returns : goal.returns
unfolding judged
returns c =
    rw (
      passed c.within_limit.ensures (ap not c.if-not-within_limit.false),
      passed c.nodes_known.ensures (ap not c.if-not-nodes_known.false),
      passed c.paths_earlier.ensures (ap not c.if-not-paths_earlier.false),
      passed c.least_positive.ensures (ap not c.if-not-least_positive.false),
    )
