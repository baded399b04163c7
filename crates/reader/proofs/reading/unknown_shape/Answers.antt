use mathlib.Core.Path.{refl, sym, ap, ◌∙◌}
use native.Mathlib.Omega.{arith}
use Rattle.cases.specs.Refusals.{refusal_says}
use Rattle.reader.proofs.Unknown.{unknown_here, unknown_later, unknown_none}
use Rattle.reader.proofs.reading.unknown_shape.Goals as goal

pub loop-i-init : goal.loop-i-init
loop-i-init c = (omega arith, refl)

pub returns-then-shapes-named : goal.returns-then-shapes-named
returns-then-shapes-named c =
    ap refusal_says c.at.ensures ∙ sym (c.loop-i.invariant.1 ∙ unknown_here _ _ _ _ c.loop-i-test.true c.if-shapes-named.true)

pub loop-i-preserved : goal.loop-i-preserved
loop-i-preserved c = (omega arith, c.loop-i.invariant.1 ∙ unknown_later _ _ _ _ c.loop-i-test.true c.if-shapes-named.false)

pub returns : goal.returns
returns c = sym (c.loop-i.invariant.1 ∙ unknown_none _ _ _ _ c.loop-i-test.false)
