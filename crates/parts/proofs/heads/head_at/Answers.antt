-- `parts::heads::head_at` meets its contract: 3, 1 and 3 by the tests on the way, then by the kind. Assumes nothing.
use Rattle.parts.proofs.Opens.{head_empty, head_unknown, head_cut, head_name, head_most, head_rule}
use Rattle.parts.proofs.heads.head_at.Goals as goal

pub returns-in_default : goal.returns-in_default
returns-in_default c = search head_empty

pub returns-then-kind-eq0 : goal.returns-then-kind-eq0
returns-then-kind-eq0 c = search head_unknown

pub returns-in_default-read_operands : goal.returns-in_default-read_operands
returns-in_default-read_operands c = search head_cut

pub returns-in-4 : goal.returns-in-4
returns-in-4 c = search head_name

pub returns-in-5 : goal.returns-in-5
returns-in-5 c = search head_most

pub returns-in_default-kind : goal.returns-in_default-kind
returns-in_default-kind c = search head_rule
