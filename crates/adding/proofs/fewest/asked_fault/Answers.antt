-- `adding::fewest::asked_fault` meets its contract: one refusal after the other. Assumes nothing.
use Rattle.parts.proofs.Exits.{passed_on}
use Rattle.adding.proofs.Answers.{list_unfit, target_absent, nodes_asked}
use Rattle.adding.proofs.fewest.asked_fault.Goals as goal

pub returns-in_err-refused_unless : goal.returns-in_err-refused_unless
returns-in_err-refused_unless c =
    let e = c.in_err-refused_unless.ensures in rw (passed_on c.from_residual.result c.from_residual.ensures.1) (search list_unfit)

pub returns-in_err-refused_unless-2 : goal.returns-in_err-refused_unless-2
returns-in_err-refused_unless-2 c =
    let e = c.in_ok-refused_unless.ensures in
    let f = c.in_err-refused_unless-2.ensures in
    let r = c.from_residual-in_err-refused_unless-2 in
    rw (passed_on r.result r.ensures.1) (search target_absent)

pub returns : goal.returns
returns c = let e = c.in_ok-refused_unless.ensures in let f = c.in_ok-refused_unless-2.ensures in search nodes_asked
