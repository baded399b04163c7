-- No fault has the number 0, which stands for none. Assumes nothing.
use mathlib.Core.Path.{◌≡◌}
use native.Mathlib.Omega.{arith}
use Rattle.cases.specs.declared.refusals.Fault.{Fault}
use Rattle.cases.specs.declared.refusals.Refused.{Refused}
use Rattle.cases.specs.Refusals.{fault_number, refusal_says}

pub fault_some : (fault : Fault) → fault_number fault ≡ 0 → ⊥
fault_some fault = grind arith

pub refused_some : (r : Refused) → (refusal_says r).number ≡ 0 → ⊥
refused_some r = fault_some r.fault
