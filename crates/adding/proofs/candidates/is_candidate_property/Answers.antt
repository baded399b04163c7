-- `adding::candidates::is_candidate_property` meets its contract: each candidate is asked, and one may be of it. Assumes nothing.
use Rattle.std.proofs.Common.{rules, tests, arith, refl, eqb}
use Rattle.std.proofs.lemmas.Iterator.{YieldsList-from_range}
use Rattle.std.proofs.lemmas.Iterator.Search.{any_from_yields_List}
use Rattle.semantics.specs.Adding.{candidate_at, candidate_count}
use Rattle.adding.proofs.Listed.{property_any}
use Rattle.adding.proofs.candidates.is_candidate_property.Goals as goal

pub returns : goal.returns
returns c =
    let list = c.args.list.now in
    let n = candidate_count list in
    property_any list c.args.property
    (any_from_yields_List (λ i. eqb (candidate_at list i).property.0 c.args.property) _ _ _ c.any.ensures.ran
    (YieldsList-from_range 0 n n refl (omega arith)) (λ i b q k. search (rules, tests)))
