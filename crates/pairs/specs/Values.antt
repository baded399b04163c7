-- The value of a pair by two tables of pairs, the pair of a target by the rows, and what writing them leaves. Assumes nothing.
use Rattle.std.specs.Prelude.{ℕ, ◌+◌, ◌*◌, ◌/◌, ◌%◌, ◌≡◌, cond, List, ◌++◌, map, drop}
use Rattle.bitset.specs.Words.{member}
use Rattle.cases.specs.Faults.{no_refusal}
use Rattle.cases.specs.Counts.{words_of, size_of}
use Rattle.cases.specs.Rows.{target_in, case_in}
use Rattle.cases.specs.declared.counts.Counts.{Counts}
use Rattle.cases.specs.declared.counts.Size.{Size}
use Rattle.fixpoint.specs.Lists.{up_to}
use Rattle.semantics.specs.declared.answers.Tally.{Tally}
use Rattle.semantics.specs.declared.answers.Totals.{Totals}
use Rattle.semantics.specs.Answered.{tally_of}
use Rattle.semantics.specs.Operations.{written, tally}
use Rattle.semantics.specs.Solving.{values_of, target_values}
use Rattle.pairs.specs.Sets.{set_in}

-- pair k's value
unfoldable pub value_in : Size → List ℕ → List ℕ → ℕ → ℕ
value_in size valid possible k =
    cond (member valid size.words (k / size.nodes) (k % size.nodes)) 2
    (cond (member possible size.words (k / size.nodes) (k % size.nodes)) 1 0)

-- the values of all pairs
unfoldable pub values_in : Counts → List ℕ → List ℕ → List ℕ
values_in counts valid possible = map (value_in (size_of counts) valid possible) (up_to (counts.shapes * counts.nodes))

-- the values of a node's pairs, shape by shape
unfoldable pub node_values : Counts → ℕ → List ℕ → List ℕ → List ℕ
node_values counts a valid possible = map (λ s. value_in (size_of counts) valid possible (s * counts.nodes + a)) (up_to counts.shapes)

-- the pair of target i
unfoldable pub target_pair : Counts → List ℕ → ℕ → ℕ
target_pair counts rows i = (target_in rows i).shape.0 * counts.nodes + (target_in rows i).node.0

-- the table of values begins with those of all pairs, that of verdicts with those of all targets, and later bytes are kept
pub record ValuesWritten (counts : Counts) (valid possible values values' : List ℕ) : Type 0 where
  pub left : values' ≡ values_in counts valid possible ++ drop (counts.shapes * counts.nodes) values

pub record VerdictsWritten (counts : Counts) (rows values verdicts verdicts' : List ℕ) : Type 0 where
  pub left : verdicts' ≡ target_values (case_in counts rows) values ++ drop counts.targets verdicts

-- what is answered off tables of valid and of possible pairs: the leading entries of both tables, and what they count
abbrev pub values_by : Counts → List ℕ → List ℕ → List ℕ → List ℕ
values_by counts rows valid possible =
    values_of (case_in counts rows) (set_in (case_in counts rows) (words_of counts) valid) (set_in (case_in counts rows) (words_of counts) possible)

pub record AnswersWritten (counts : Counts) (rows valid possible values verdicts : List ℕ) (r : Tally) (values' verdicts' : List ℕ) : Type 0 where
  pub values_left : values' ≡ written no_refusal (values_by counts rows valid possible) values
  pub verdicts_left : verdicts' ≡ written no_refusal (target_values (case_in counts rows) (values_by counts rows valid possible)) verdicts
  pub tallied : r ≡ tally_of (values_by counts rows valid possible) (target_values (case_in counts rows) (values_by counts rows valid possible))

-- the totals of a node
abbrev pub node_totals : Counts → ℕ → List ℕ → List ℕ → Totals
node_totals counts a valid possible =
    record { number = 0; place = 0; valid = tally 2 (node_values counts a valid possible); undetermined = tally 1 (node_values counts a valid possible) }
