-- `justifying::digits::level_at` meets its contract: bytes are below 256, so that the sum fits. Assumes nothing.
use native.Mathlib.Omega.{arith}
use Rattle.justifying.specs.LevelRows.{level_at}
use Rattle.justifying.proofs.digits.level_at.Goals as goal

pub returns-clause-value : goal.returns-clause-value
unfolding level_at
returns-clause-value c = omega arith
