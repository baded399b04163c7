-- What checking refuses by the lengths of its tables. Assumes nothing.
use Rattle.std.specs.Prelude.{ℕ, ◌*◌, leb}
use Rattle.cases.specs.declared.counts.Counts.{Counts}
use Rattle.semantics.specs.Operations.{or_else, refuse_unless}
use Rattle.cases.specs.Faults.{Refusal}

-- 10 and 11, by the lengths of the tables
abbrev pub short_check : Counts → ℕ → ℕ → Refusal
short_check counts values levels =
    or_else (refuse_unless (leb (counts.shapes * counts.nodes) values) 10 (counts.shapes * counts.nodes))
    (refuse_unless (leb (2 * (counts.shapes * counts.nodes)) levels) 11 (2 * (counts.shapes * counts.nodes)))
