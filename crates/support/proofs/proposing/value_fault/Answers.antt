use native.Mathlib.Omega.{arith}
use Rattle.std.proofs.lemmas.Grind.{common_steps}
use Rattle.semantics.proofs.Refusing.{well_all}
use Rattle.support.proofs.ValueFaults.{next_value}
use Rattle.support.proofs.proposing.value_fault.Goals as goal

pub returns-in_err-map_err : goal.returns-in_err-map_err
returns-in_err-map_err c = let at = next_value _ c.loop-k-test.true c.loop-k.invariant in grind (arith, common_steps)

pub loop-k-preserved : goal.loop-k-preserved
loop-k-preserved c = let at = next_value _ c.loop-k-test.true c.loop-k.invariant in grind (arith, common_steps)

pub returns : goal.returns
returns c = search well_all
