-- What is answered off the sets of valid and of possible pairs. Assumes nothing.
use Prim.Native.Nat.{ℕ, ◌*◌}
use native.Mathlib.Omega.{arith}
use mathlib.Core.Path.{◌≡◌, sym, ap, ap₂, ◌∙◌}
use mathlib.Core.Bool.{Bool, ◌&&◌, and-eq-true_iff}
use mathlib.Core.List.{List, ◌++◌}
use lib.Dec.{ltb}
use lib.ListN.{length, take, drop, length-map, get_or-append}
use lib.Seq.{take_at}
use borrow.Author.Tests.{ltb-true}
use Rattle.fixpoint.specs.Lists.{all}
use Rattle.fixpoint.proofs.Lists.{length_made, map_where, all_where}
use Rattle.cases.specs.declared.command.Target.{Target}
use Rattle.cases.specs.Faults.{no_refusal}
use Rattle.cases.specs.Case.{Case}
use Rattle.cases.specs.Counts.{words_of}
use Rattle.cases.specs.Rows.{case_in, CaseIn}
use Rattle.cases.specs.Sound.{Sound}
use Rattle.cases.specs.declared.counts.Counts.{Counts}
use Rattle.cases.proofs.InRows.{nodes_in, shapes_in, targets_in}
use Rattle.semantics.specs.declared.answers.Tally.{Tally}
use Rattle.semantics.specs.Answered.{tally_of}
use Rattle.semantics.specs.Operations.{written}
use Rattle.semantics.specs.Solving.{target_values}
use Rattle.semantics.specs.Values.{pair_count, pair_of}
use Rattle.semantics.proofs.Pairs.{pair_below}
use Rattle.semantics.proofs.Solved.{values_length}
use Rattle.pairs.specs.Sets.{set_in}
use Rattle.pairs.specs.Values.{values_in, values_by, ValuesWritten, VerdictsWritten, AnswersWritten}
use Rattle.pairs.proofs.Sets.{has_set_in}
use Rattle.pairs.proofs.Valued.{values_are}

-- the values in the tables are those of the sets that they hold
pub values_by_lem : (counts : Counts) (rows valid possible : List ℕ) → values_in counts valid possible ≡ values_by counts rows valid possible
values_by_lem counts rows valid possible =
    let c = case_in counts rows in
    values_are c counts valid possible (nodes_in counts rows) (shapes_in counts rows) (set_in c (words_of counts) valid) (set_in c (words_of counts) possible)
    (has_set_in c (words_of counts) valid) (has_set_in c (words_of counts) possible)

pub pairs_in : (counts : Counts) (rows : List ℕ) → pair_count (case_in counts rows) ≡ counts.shapes * counts.nodes
unfolding pair_count
pairs_in counts rows = ap₂ (λ a b. a * b) (shapes_in counts rows) (nodes_in counts rows)

targets_long : (counts : Counts) (rows values : List ℕ) → length (target_values (case_in counts rows) values) ≡ counts.targets
unfolding target_values
targets_long counts rows values = length-map (case_in counts rows).targets _ ∙ rw (targets_in counts rows) (length_made _ counts.targets)

-- targets read values of the case's pairs alone
pub targets_read : (c : Case) → Sound c → (values later : List ℕ) → length values ≡ pair_count c → target_values c (values ++ later) ≡ target_values c values
unfolding target_values all
targets_read c sound values later e =
    let shape : Target → Bool = λ t. ltb t.shape.0 (length c.shapes) in
    let node : Target → Bool = λ t. ltb t.node.0 c.nodes in
    map_where _ _ (λ t. shape t && node t) c.targets (sym (all_where c.targets shape node sound.targets_named) ∙ sound.targets_known)
    (λ t h.
    let both = (and-eq-true_iff (shape t) (node t)).0 h in
    get_or-append values later 0 (pair_of c t.shape.0 t.node.0)
    (omega (arith, pair_below c t.shape.0 t.node.0 (ltb-true _ _ both.0) (ltb-true _ _ both.1))))

-- the leading entries of a table that was written
leading : (n : ℕ) (table entries : List ℕ) {t' : List ℕ} → length entries ≡ n → t' ≡ written no_refusal entries table → take n t' ≡ entries
unfolding written
leading n table entries f e = ap (take n) e ∙ take_at entries (drop (length entries) table) n f

module _ {counts : Counts} {rows valid possible values verdicts values' verdicts' : List ℕ} (h : CaseIn counts rows) (v : ValuesWritten counts valid possible values values')
    (d : VerdictsWritten counts rows values' verdicts verdicts') where
  abbrev made : List ℕ
  made = values_by counts rows valid possible

  made_long : length made ≡ counts.shapes * counts.nodes
  made_long = values_length (case_in counts rows) _ _ ∙ pairs_in counts rows

  values_left : values' ≡ written no_refusal made values
  unfolding written
  values_left = v.left ∙ rw (values_by_lem counts rows valid possible, made_long)

  verdicts_left : verdicts' ≡ written no_refusal (target_values (case_in counts rows) made) verdicts
  unfolding written
  verdicts_left =
      let c = case_in counts rows in
      d.left
      ∙ ap₂ ◌++◌
      (ap (target_values c) values_left ∙ targets_read c h.sound made (drop (length made) values) (values_length c _ _))
      (ap (λ n. drop n verdicts) (sym (targets_long counts rows made)))

  pub answers_written : {n : ℕ} {r : Tally} → n ≡ counts.shapes * counts.nodes → r ≡ tally_of (take n values') (take counts.targets verdicts')
      → AnswersWritten counts rows valid possible values verdicts r values' verdicts'
  answers_written {n} is e = record {
    values_left = values_left;
    verdicts_left = verdicts_left;
    tallied =
        e
        ∙ ap₂ tally_of (leading n values made (made_long ∙ sym is) values_left)
        (leading counts.targets verdicts (target_values (case_in counts rows) made) (targets_long counts rows made) verdicts_left);
  }
