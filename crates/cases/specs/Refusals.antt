-- Refusals: the documents' numbers, and what an answer that may be a refusal says by them. Document 01, "Refusals, operation by operation";
-- document 02, points 2, 4, 7, 8 and 10. Assumes nothing.
use Rattle.std.specs.Prelude.{ℕ, ◌≡◌, Result, Ok, Err}
use Rattle.cases.specs.declared.refusals.Fault.{Fault}
use Rattle.cases.specs.declared.refusals.Fault.TheVariants.{UnknownCommand, OutOfOrder, Incomplete, BeyondLimit, UnknownNode, UnknownPath, LeastZero}
use Rattle.cases.specs.declared.refusals.Fault.TheVariants.{BehindEnd, UnknownShape, ShortValues, ShortLevels, ShortVerdicts, NoValue, Unsupported}
use Rattle.cases.specs.declared.refusals.Fault.TheVariants.{Unjustified, ShortStrata, OwnDenial, TooDeep, TooManyShapes, NeverLaid, UnknownPair}
use Rattle.cases.specs.declared.refusals.Fault.TheVariants.{UnknownProfile, UnfitList, NotInCase, NoneSuffices}
use Rattle.cases.specs.declared.refusals.Refused.{Refused}
use Rattle.cases.specs.Faults.{Refusal, no_refusal}

-- the documents' number of each fault
abbrev pub fault_number : Fault → ℕ
fault_number UnknownCommand = 1
fault_number OutOfOrder = 2
fault_number Incomplete = 3
fault_number BeyondLimit = 4
fault_number UnknownNode = 5
fault_number UnknownPath = 6
fault_number LeastZero = 7
fault_number BehindEnd = 8
fault_number UnknownShape = 9
fault_number ShortValues = 10
fault_number ShortLevels = 11
fault_number ShortVerdicts = 12
fault_number NoValue = 13
fault_number Unsupported = 14
fault_number Unjustified = 15
fault_number ShortStrata = 16
fault_number OwnDenial = 17
fault_number TooDeep = 18
fault_number TooManyShapes = 19
fault_number NeverLaid = 20
fault_number UnknownPair = 21
fault_number UnknownProfile = 22
fault_number UnfitList = 23
fault_number NotInCase = 24
fault_number NoneSuffices = 25

abbrev pub refused_at : Fault → ℕ → Refused
refused_at fault place = record { fault = fault; place = place }

-- what a refusal says
abbrev pub refusal_says : Refused → Refusal
refusal_says r = record { number = fault_number r.fault; place = r.place }

-- the refusal that an answer is, if it is one
abbrev pub refusal_in : {A : Type 0} → Result A Refused → Refusal
refusal_in (Ok x) = no_refusal
refusal_in (Err r) = refusal_says r

-- the number that it is, where the place is known
abbrev pub fault_in : {A : Type 0} → Result A Fault → ℕ
fault_in (Ok x) = 0
fault_in (Err fault) = fault_number fault

-- the answer of a call that came to this, where a refusal gives its answer
abbrev pub AnsweredBy : {A : Type 0} → (Refused → A → Type 0) → Result A Refused → A → Type 0
AnsweredBy gives (Ok x) answer = answer ≡ x
AnsweredBy gives (Err r) answer = gives r answer

-- the same where the answer of a refusal is a function of it
abbrev pub answer_in : {A : Type 0} → (Refused → A) → Result A Refused → A
answer_in refused (Ok x) = x
answer_in refused (Err r) = refused r
