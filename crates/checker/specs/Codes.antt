-- The first fault of a proposal whose tables are long enough, under either code, and what its check answers. Assumes nothing.
use Rattle.std.specs.Prelude.{ℕ, ◌*◌, List, Result}
use Rattle.cases.specs.Faults.{Refusal}
use Rattle.cases.specs.Case.{Case}
use Rattle.cases.specs.Refusals.{refusal_says, answer_in}
use Rattle.cases.specs.declared.counts.Counts.{Counts}
use Rattle.cases.specs.declared.refusals.Refused.{Refused}
use Rattle.semantics.specs.Answered.{refused_checked}
use Rattle.semantics.specs.declared.answers.Checked.{Checked}
use Rattle.semantics.specs.OldCode.{support_fault}
use Rattle.semantics.specs.Operations.{or_else, levels_in, value_fault, pair_fault}
use Rattle.semantics.specs.Values.{pair_count}
use Rattle.checker.specs.declared.checking.Code.{Code}
use Rattle.checker.specs.declared.checking.Code.TheVariants.{Older, Newer}

-- the bytes of levels that are read: the older code takes an assignment without levels
abbrev pub levels_needed : Code → Counts → ℕ
levels_needed Older counts = 0
levels_needed Newer counts = 2 * (counts.shapes * counts.nodes)

-- 13, then pair by pair 14 and, under the newer code, 15
unfoldable pub proposal_fault : Code → Case → List ℕ → List ℕ → Refusal
proposal_fault Older c values levels = or_else (value_fault c values) (support_fault c values)
proposal_fault Newer c values levels = or_else (value_fault c values) (pair_fault c values (levels_in (pair_count c) levels))

-- the answer of a check that came to this
abbrev pub checked_in : Result Checked Refused → Checked
checked_in = answer_in (λ r. refused_checked (refusal_says r))
