-- How answers are put together: of a refusal its number and place, and "each count that it carries, rounds and strata included, is 0"; else what
-- values and verdicts count. Assumes nothing.
use Rattle.std.specs.Prelude.{ℕ, List}
use Rattle.semantics.specs.declared.answers.Solution.{Solution}
use Rattle.semantics.specs.declared.answers.Checked.{Checked}
use Rattle.semantics.specs.declared.answers.Ranked.{Ranked}
use Rattle.semantics.specs.declared.answers.Fewest.{Fewest}
use Rattle.semantics.specs.declared.answers.Tally.{Tally}
use Rattle.semantics.specs.declared.answers.Totals.{Totals}
use Rattle.semantics.specs.declared.ongoing.Reply.{Reply}
use Rattle.semantics.specs.Operations.{tally}
use Rattle.cases.specs.Faults.{Refusal}

abbrev pub refused_solution : Refusal → Solution
refused_solution r = record { number = r.number; place = r.place; rounds = 0; valid = 0; undetermined = 0; sure = 0; «open» = 0; impossible = 0 }

abbrev pub refused_checked : Refusal → Checked
refused_checked r = record { number = r.number; place = r.place; undetermined = 0; valid = 0 }

abbrev pub refused_totals : Refusal → Totals
refused_totals r = record { number = r.number; place = r.place; valid = 0; undetermined = 0 }

abbrev pub refused_reply : Refusal → Reply
refused_reply r = record { number = r.number; place = r.place; reply = 0 }

-- ranking's, for a refusal or none and a number of strata
abbrev pub ranked_by : Refusal → ℕ → Ranked
ranked_by r strata = record { number = r.number; place = r.place; strata = strata }

abbrev pub fewest_by : Refusal → ℕ → Fewest
fewest_by r selection = record { number = r.number; place = r.place; selection = selection }

-- what values and verdicts count, and solving's answer for that and a number of rounds
abbrev pub tally_of : List ℕ → List ℕ → Tally
tally_of values verdicts =
    record { valid = tally 2 values; undetermined = tally 1 values; sure = tally 2 verdicts; «open» = tally 1 verdicts; impossible = tally 0 verdicts }

abbrev pub solved_with : ℕ → Tally → Solution
solved_with rounds t =
    record {
      number = 0;
      place = 0;
      rounds = rounds;
      valid = t.valid;
      undetermined = t.undetermined;
      sure = t.sure;
      «open» = t.«open»;
      impossible = t.impossible;
    }
