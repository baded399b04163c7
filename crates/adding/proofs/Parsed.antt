-- What was parsed is what reading says of the input. Assumes nothing.
use Prim.Native.Nat.{ℕ}
use mathlib.Core.Path.{◌≡◌, ap}
use mathlib.Core.List.{List}
use lib.ListN.{length}
use Rattle.cases.specs.Reading.{Outcome, outcome}
use Rattle.cases.specs.Rows.{case_in}
use Rattle.reader.specs.Parsing.{Parsed}
use Rattle.cases.specs.declared.counts.Counts.{Counts}
use Rattle.cases.proofs.InRows.{targets_in}
use Rattle.fixpoint.proofs.Lists.{length_made}
use Rattle.reader.specs.Parsing.{ParsedAs}
use Rattle.semantics.specs.Operations.{case_of}

module _ {s : List ℕ} {p : Parsed} {rows : List ℕ} (h : ParsedAs s p rows) where
  pub parsed_refusal : p.refusal ≡ (outcome s).refusal
  parsed_refusal = ap (λ (o : Outcome). o.refusal) h.comes_to

  pub parsed_case : case_in p.counts rows ≡ case_of s
  unfolding case_of
  parsed_case = ap (λ (o : Outcome). o.case) h.comes_to

-- its targets are as many as the counts say
pub targets_count : (counts : Counts) (rows : List ℕ) → length (case_in counts rows).targets ≡ counts.targets
targets_count counts rows = rw (targets_in counts rows) (length_made _ counts.targets)
