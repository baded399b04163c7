-- `finding::noting::note_all` meets its contract: each arm notes its references. Assumes nothing.
use Rattle.finding.proofs.Notes.{noted_of_none, noted_of_two}
use Rattle.finding.proofs.noting.note_all.Goals as goal

pub returns-in-No : goal.returns-in-No
returns-in-No c = search noted_of_none

pub returns-in-Two : goal.returns-in-Two
returns-in-Two c = search noted_of_two
