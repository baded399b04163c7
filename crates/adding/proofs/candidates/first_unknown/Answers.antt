use Rattle.parts.proofs.Exits.{passed_on}
use Rattle.semantics.proofs.Refusing.{well_all}
use Rattle.adding.proofs.Listed.{known_more, known_first}
use Rattle.adding.proofs.candidates.first_unknown.Goals as goal

pub returns-in_err-refused_unless : goal.returns-in_err-refused_unless
returns-in_err-refused_unless c =
    let e = c.in_err-refused_unless.ensures in rw (passed_on c.from_residual.result c.from_residual.ensures.1) (search known_first)

pub loop-i-preserved : goal.loop-i-preserved
loop-i-preserved c = let e = c.in_ok-refused_unless.ensures in search known_more

pub returns : goal.returns
returns c = search well_all
