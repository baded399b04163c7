-- `parts::heads::rule_head` meets its contract: the first test that fails decides. Assumes nothing.
use Rattle.std.proofs.Common.{ap, not}
use Rattle.cases.specs.Parts.{rule_head}
use Rattle.cases.proofs.Formats.{passed, failed}
use mathlib.Core.Path.{◌∙◌}
use Rattle.parts.proofs.heads.rule_head.Goals as goal

pub returns-then-not-shape_nodes_known : goal.returns-then-not-shape_nodes_known
unfolding rule_head
returns-then-not-shape_nodes_known c = rw (← c.from-rule.ensures, failed c.shape_nodes_known.ensures (ap not c.if-not-shape_nodes_known.true))

pub returns-then-not-shape_paths_earlier : goal.returns-then-not-shape_paths_earlier
unfolding rule_head
returns-then-not-shape_paths_earlier c =
    rw (
      ← c.from-rule.ensures,
      passed c.shape_nodes_known.ensures (ap not c.if-not-shape_nodes_known.false),
      failed c.shape_paths_earlier.ensures (ap not c.if-not-shape_paths_earlier.true),
    )

pub returns-then-not-shape_least_positive : goal.returns-then-not-shape_least_positive
unfolding rule_head
returns-then-not-shape_least_positive c =
    rw (
      ← c.from-rule.ensures,
      passed c.shape_nodes_known.ensures (ap not c.if-not-shape_nodes_known.false),
      passed c.shape_paths_earlier.ensures (ap not c.if-not-shape_paths_earlier.false),
      failed c.shape_least_positive.ensures (ap not c.if-not-shape_least_positive.true),
    )

pub returns : goal.returns
unfolding rule_head
returns c =
    c.opening_of.ensures
    ∙ rw (
      ← c.from-rule.ensures,
      passed c.shape_nodes_known.ensures (ap not c.if-not-shape_nodes_known.false),
      passed c.shape_paths_earlier.ensures (ap not c.if-not-shape_paths_earlier.false),
      passed c.shape_least_positive.ensures (ap not c.if-not-shape_least_positive.false),
    )
