-- `checker::checking::check_proposal` meets its contract. Assumes nothing.
use Rattle.checker.proofs.Answered.{answer_refused, answer_accepted}
use Rattle.checker.proofs.checking.check_proposal.Goals as goal

pub returns-in_err-proposal_fault : goal.returns-in_err-proposal_fault
returns-in_err-proposal_fault c =
    answer_refused c.args.counts c.args.rows.now c.args.values.now c.in_err-proposal_fault.field-0.0 c.from_residual.result c.from_residual.ensures.1 c.in_err-proposal_fault.ensures

pub returns : goal.returns
returns c = let e = c.in_ok-proposal_fault.ensures in search answer_accepted
