-- `finding::commands::find_roomy` meets its contract: a 28 or another command, judged by 19. Assumes nothing.
use Rattle.parts.proofs.Exits.{passed_on}
use Rattle.finding.proofs.Findings.{room_plain, nested_few, plain_few, roomy_nested_refused, roomy_nested, roomy_plain_refused, roomy_plain}
use Rattle.finding.proofs.commands.find_roomy.Goals as goal
use Rattle.finding.proofs.commands.find_roomy.Goals.{then-part-eq40+in_ok-finding, else-part-eq40+in_ok-finding-2}

pub find_plain-requires : goal.find_plain-requires
find_plain-requires c = search room_plain

pub returns-in_err-finding : goal.returns-in_err-finding
returns-in_err-finding c =
    roomy_nested_refused c.requires c.if-part-eq40.true c.find_nested.ensures c.in_err-finding.was
    (passed_on c.from_residual.result c.from_residual.ensures.1)

pub returns-in_err-finding-2 : goal.returns-in_err-finding-2
returns-in_err-finding-2 c =
    roomy_plain_refused c.requires c.if-part-eq40.false c.find_plain.ensures c.in_err-finding-2.was
    (passed_on c.from_residual-in_err-finding-2.result c.from_residual-in_err-finding-2.ensures.1)

pub with_room-requires : goal.with_room-requires
with_room-requires c = elim c.if-part-eq40.branch [
  | then-part-eq40+in_ok-finding w ↦ rw w.finding-is (nested_few c.requires w.if-part-eq40.true w.find_nested.ensures w.in_ok-finding.was)
  | else-part-eq40+in_ok-finding-2 w ↦ rw w.finding-is (plain_few c.requires w.if-part-eq40.false w.find_plain.ensures w.in_ok-finding-2.was)
]

pub returns : goal.returns
returns c = elim c.if-part-eq40.branch [
  | then-part-eq40+in_ok-finding w ↦
      rw (w.fresh-is, w.named-is)
      (roomy_nested c.requires w.if-part-eq40.true w.find_nested.ensures w.in_ok-finding.was (rw w.finding-is at c.with_room.ensures))
  | else-part-eq40+in_ok-finding-2 w ↦
      rw (w.fresh-is, w.named-is)
      (roomy_plain c.requires w.if-part-eq40.false w.find_plain.ensures w.in_ok-finding-2.was (rw w.finding-is at c.with_room.ensures))
]
