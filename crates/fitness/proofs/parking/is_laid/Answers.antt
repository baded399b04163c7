-- `fitness::parking::is_laid` meets its contract: each edge is compared, and one may be it. Assumes nothing.
use Rattle.std.proofs.Common.{rules, tests, arith, refl}
use Rattle.std.proofs.lemmas.Iterator.{YieldsList-from_range}
use Rattle.std.proofs.lemmas.Iterator.Search.{any_from_yields_List}
use Rattle.cases.specs.Case.{edge_is}
use Rattle.cases.specs.Rows.{edge_in}
use Rattle.fitness.proofs.Laid.{laid_any}
use Rattle.fitness.proofs.parking.is_laid.Goals as goal

pub returns : goal.returns
unfolding edge_in
returns c =
    let edge = c.args.edge in
    let edges = c.args.edges in
    laid_any edge edges c.args.rows.now
    (any_from_yields_List (λ i. edge_is 0x02 edge.property.0 edge.subject.0 edge.object.0 (edge_in c.args.rows.now i)) _ _ _ c.any.ensures.ran
    (YieldsList-from_range 0 edges edges refl (omega arith)) (λ i b q k. search (rules, tests)))
