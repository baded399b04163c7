-- `reader::storing::store` meets its contract: each arm adds a command of its kind. Assumes nothing.
use Rattle.reader.proofs.Stores.{stored_nodes, stored_edge, stored_path, stored_shape, target_fits, stored_target, stored_end}
use Rattle.reader.proofs.storing.store.Goals as goal

pub put_row-requires-in-Target : goal.put_row-requires-in-Target
put_row-requires-in-Target c = search target_fits

pub returns-in-Nodes : goal.returns-in-Nodes
returns-in-Nodes c = search stored_nodes

pub returns-in-Edge : goal.returns-in-Edge
returns-in-Edge c = search stored_edge

pub returns-in-Path : goal.returns-in-Path
returns-in-Path c = search stored_path

pub returns-in-Shape : goal.returns-in-Shape
returns-in-Shape c = search stored_shape

pub returns-in-Target : goal.returns-in-Target
returns-in-Target c = search stored_target

pub returns-in-End : goal.returns-in-End
returns-in-End c = search stored_end
