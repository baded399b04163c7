-- `finding::commands::find_plain` meets its contract: a refusal, or a command whose shapes are noted. Assumes nothing.
use Rattle.parts.proofs.Exits.{passed_on}
use Rattle.finding.proofs.Findings.{plain_refused, plain_room, plain_noted}
use Rattle.finding.proofs.commands.find_plain.Goals as goal

pub returns-in_err-accepted : goal.returns-in_err-accepted
returns-in_err-accepted c =
    plain_refused _ c.args.reached _ c.next.ensures c.in_err-accepted.was (passed_on c.from_residual.result c.from_residual.ensures.1)

pub note-noted-requires : goal.note-noted-requires
note-noted-requires c = plain_room _ c.args.reached _ c.next.ensures c.in_ok-accepted.was c.requires

pub returns : goal.returns
returns c = plain_noted _ c.args.reached _ c.next.ensures c.in_ok-accepted.was c.note-noted.ensures
