-- What reading into the table of rows leaves. No part of document 01. Assumes nothing.
use Rattle.std.specs.Prelude.{ℕ, ◌*◌, ◌≤◌, ◌≡◌, cond, List, length, Result, Ok, Err, ltb}
use Rattle.cases.specs.declared.counts.Counts.{Counts}
use Rattle.cases.specs.declared.refusals.Refused.{Refused}
use Rattle.cases.specs.Refusals.{fault_number}
use Rattle.cases.specs.Faults.{Refusal, no_refusal}
use Rattle.cases.specs.Reading.{Note, Outcome, outcome, unknown_shape}
use Rattle.cases.specs.Rows.{case_in, CaseIn}
use Rattle.parts.specs.Expanding.{ExpandRoom, ExpandedAs}
use Rattle.parts.specs.Tables.{named_in}
use Rattle.finding.specs.declared.commands.Reached.{Reached}

-- what reading comes to, beside the table of rows: the counts are 0 on a refusal
pub record Parsed : Type 0 where
  pub refusal : Refusal
  pub counts : Counts

abbrev pub refused_as : ℕ → ℕ → Parsed
refused_as number place =
    record {
      refusal = record { number = number; place = place };
      counts = record { nodes = 0; edges = 0; paths = 0; shapes = 0; targets = 0 };
    }

-- what the code answers for it
abbrev pub parsed_in : Result Counts Refused → Parsed
parsed_in (Ok counts) = record { refusal = no_refusal; counts = counts }
parsed_in (Err r) = refused_as (fault_number r.fault) r.place

-- the end of the input: 8, or 9
unfoldable pub end_fault : ℕ → ℕ → ℕ → List Note → Refusal
end_fault bytes end shapes notes = cond (ltb end bytes) (record { number = 8; place = end }) (unknown_shape shapes notes)

pub record EndRoom (reached : Reached) (fresh named rows : List ℕ) : Type 0 where
  pub expand : ExpandRoom reached.counts fresh reached.fresh rows
  pub notes : 2 * reached.noted ≤ length named

-- a refusal, or the expansion of the case in the rows
pub record EndedAs (bytes end : ℕ) (reached : Reached) (fresh named rows : List ℕ) (r : Parsed) (rows' : List ℕ) : Type 0 where
  pub refusal_is : r.refusal ≡ end_fault bytes end reached.counts.shapes (named_in named reached.noted)
  pub long : length rows' ≡ length rows
  pub refused : (r.refusal.number ≡ 0 → ⊥) → r.counts ≡ record { nodes = 0; edges = 0; paths = 0; shapes = 0; targets = 0 }
  pub expanded : r.refusal.number ≡ 0 → ExpandedAs reached.counts fresh reached.fresh rows r.counts rows'

-- what was parsed, with the case in the rows, is what the input comes to; the case is sound and fits its tables, on a refusal too
pub record ParsedAs (s : List ℕ) (r : Parsed) (rows : List ℕ) : Type 0 where
  pub comes_to : ◌≡◌ {A = Outcome} (record { refusal = r.refusal; case = case_in r.counts rows }) (outcome s)
  pub held : CaseIn r.counts rows
