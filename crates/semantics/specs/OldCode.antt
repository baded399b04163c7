-- The old code: a supported assignment is taken without levels. Document 02, point 6. Assumes nothing.
use Rattle.std.specs.Prelude.{ℕ, List}
use Rattle.fixpoint.specs.Lists.{up_to}
use Rattle.cases.specs.Faults.{Refusal}
use Rattle.cases.specs.Case.{Case}
use Rattle.cases.specs.Reading.{outcome}
use Rattle.semantics.specs.declared.answers.Checked.{Checked}
use Rattle.semantics.specs.declared.answers.CheckedOld.{CheckedOld}
use Rattle.semantics.specs.Operations.{or_else, first_of, refuse_unless, too_short, case_of, value_fault, checked}
use Rattle.semantics.specs.Values.{pair_count, supported_at}

-- 14: the first pair whose value is not its rule's
abbrev pub support_fault : Case → List ℕ → Refusal
support_fault c value_table = first_of (up_to (pair_count c)) (λ k. refuse_unless (supported_at c value_table k) 14 k)

-- "Its refusals are those of checking without 11 and 15": 10, then 13, then 14, after those of reading
unfoldable pub old_fault : Case → List ℕ → Refusal
old_fault c value_table = or_else (too_short 10 (pair_count c) value_table) (or_else (value_fault c value_table) (support_fault c value_table))

unfoldable pub old_refusal : List ℕ → List ℕ → Refusal
old_refusal s value_table = or_else (outcome s).refusal (old_fault (case_of s) value_table)

-- "Its answer is checking's counts, then the byte 1 for the old code, on refusal too"
abbrev pub with_old_code : Checked → CheckedOld
with_old_code a = record { number = a.number; place = a.place; undetermined = a.undetermined; valid = a.valid; code = 1 }

unfoldable pub old_answer : List ℕ → List ℕ → CheckedOld
old_answer s value_table = with_old_code (checked (old_refusal s value_table) (case_of s) value_table)
