-- `adding::fewest::fewest` meets its contract. Assumes nothing.
use mathlib.Core.Path.{◌∙◌}
use Rattle.parts.proofs.Exits.{passed_on}
use Rattle.adding.proofs.Answers.{input_refused, asked_refused, list_few, target_low, searchable, none_suffices, fewest_found}
use Rattle.adding.proofs.fewest.fewest.Goals as goal

pub returns-in_err-counts : goal.returns-in_err-counts
returns-in_err-counts c =
    let h = c.in_err-counts.ensures in rw (passed_on c.from_residual.result c.from_residual.ensures.1) (search input_refused)

pub returns-in_err-asked_fault : goal.returns-in_err-asked_fault
returns-in_err-asked_fault c =
    let h = c.in_ok-counts.ensures in
    let e = c.in_err-asked_fault.ensures in
    let r = c.from_residual-in_err-asked_fault in
    rw (passed_on r.result r.ensures.1) (search asked_refused)

pub target_in-pair-requires-clause-i_bound : goal.target_in-pair-requires-clause-i_bound
target_in-pair-requires-clause-i_bound c = let h = c.in_ok-counts.ensures in let e = c.in_ok-asked_fault.ensures in search target_low

pub sliced_key-found-requires : goal.sliced_key-found-requires
sliced_key-found-requires c = let h = c.in_ok-counts.ensures in let e = c.in_ok-asked_fault.ensures in search searchable

pub returns-in_err-key : goal.returns-in_err-key
returns-in_err-key c =
    let h = c.in_ok-counts.ensures in
    let e = c.in_ok-asked_fault.ensures in
    let found = c.in_err-key.ensures in
    let r = c.from_residual-in_err-key in
    rw (passed_on r.result r.ensures.1) (search none_suffices)

pub selection_count-requires : goal.selection_count-requires
selection_count-requires c = let h = c.in_ok-counts.ensures in let e = c.in_ok-asked_fault.ensures in search list_few

pub returns : goal.returns
returns c =
    let h = c.in_ok-counts.ensures in
    let e = c.in_ok-asked_fault.ensures in
    let found = c.in_ok-key.ensures in
    c.selected.ensures ∙ search fewest_found
