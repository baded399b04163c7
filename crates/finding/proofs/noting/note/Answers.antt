-- `finding::noting::note` meets its contract: each arm notes the shapes that its command names. Assumes nothing.
use Rattle.finding.proofs.Notes.{room_shape, room_target, noted_of_other, noted_of_shape, noted_of_target}
use Rattle.cases.specs.Reading.{shapes_named}
use Rattle.finding.proofs.noting.note.Goals as goal

pub note_all-requires : goal.note_all-requires
note_all-requires c = search room_shape

pub note_one-requires : goal.note_one-requires
note_one-requires c = search room_target

pub returns-in-Nodes : goal.returns-in-Nodes
unfolding shapes_named
returns-in-Nodes c = search noted_of_other

pub returns-in-Edge : goal.returns-in-Edge
unfolding shapes_named
returns-in-Edge c = search noted_of_other

pub returns-in-Path : goal.returns-in-Path
unfolding shapes_named
returns-in-Path c = search noted_of_other

pub returns-in-Shape : goal.returns-in-Shape
returns-in-Shape c = search noted_of_shape

pub returns-in-Target : goal.returns-in-Target
returns-in-Target c = search noted_of_target

pub returns-in-End : goal.returns-in-End
unfolding shapes_named
returns-in-End c = search noted_of_other
