-- `support::rule_values::value_at` meets its contract. Assumes nothing.
use native.Mathlib.Omega.{arith}
use Rattle.std.proofs.lemmas.Grind.{common_steps}
use Rattle.support.proofs.Supported.{says_value}
use Rattle.support.proofs.rule_values.value_at.Goals as goal

pub returns : goal.returns
returns c = let said = says_value _ c.requires.a_bound in grind (arith, common_steps)
