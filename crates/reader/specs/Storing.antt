-- What storing a command needs and leaves. No part of document 01. Assumes nothing.
use Rattle.std.specs.Prelude.{ℕ, ◌≤◌, ◌≡◌, true, List, length}
use Rattle.cases.specs.declared.command.Command.{Command}
use Rattle.cases.specs.declared.command.Row.{Row}
use Rattle.cases.specs.declared.counts.Counts.{Counts}
use Rattle.cases.specs.Counts.{edge_limit, path_limit, target_limit}
use Rattle.cases.specs.Faults.{within_limit}
use Rattle.cases.specs.Reading.{add}
use Rattle.cases.specs.Rows.{case_in, Full}
use Rattle.finding.specs.Finding.{says}

-- each kind is within the rows that the table has for it
pub record StoredWithin (counts : Counts) : Type 0 where
  pub edges : counts.edges ≤ edge_limit
  pub paths : counts.paths ≤ path_limit
  pub shapes : counts.shapes ≤ 32
  pub targets : counts.targets ≤ target_limit

-- and so it is with the command
pub record StoreRoom (command : Command) (r : Row) (counts : Counts) (rows : List ℕ) : Type 0 where
  pub said : says r command
  pub within : StoredWithin counts
  -- under some profile there is room for one more
  pub profile : ℕ
  pub more : within_limit profile counts command ≡ true
  pub full : Full rows

-- the case with the command added, in a table as long as before
pub record Stored (command : Command) (counts : Counts) (rows : List ℕ) (counts' : Counts) (rows' : List ℕ) : Type 0 where
  pub added : case_in counts' rows' ≡ add (case_in counts rows) command
  pub long : length rows' ≡ length rows
