-- `parts::readers::read_inner` and `parts::readers::read_part` meet their contracts. Assumes nothing.
use Rattle.std.proofs.Common.{arith, ap, ◌∙◌, Ok}
use Rattle.parts.proofs.Exits.{passed_on}
use Rattle.parts.proofs.Leaving.{start_fits, room_inner, room_most, room_second}
use Rattle.parts.proofs.Leaving.{opened_refused, opened_name, opened_alone, one_refused, opened_one, first_refused, second_refused, opened_two}
use Rattle.parts.proofs.Leaving.{most_refused, opened_most, inner_deep, room_opened, room_filled, inner_refused, inner_named, inner_ruled}
use Rattle.parts.proofs.readers.+read_inner_read_part.Goals as goal

pub read_inner-returns-then-depth-eq0 : goal.read_inner-returns-then-depth-eq0
read_inner-returns-then-depth-eq0 t c = inner_deep c.if-depth-eq0.true

pub read_inner-read_part-requires : goal.read_inner-read_part-requires
read_inner-read_part-requires t c =
    (omega arith, room_opened c.requires c.if-depth-eq0.false c.reserved.ensures)

pub read_inner-returns-in_err-opened : goal.read_inner-returns-in_err-opened
read_inner-returns-in_err-opened t c =
    inner_refused c.requires c.if-depth-eq0.false c.reserved.ensures c.read_part.ensures c.in_err-opened.was
    (passed_on c.from_residual.result c.from_residual.ensures.1)

pub read_inner-put_row-requires : goal.read_inner-put_row-requires
read_inner-put_row-requires t c = room_filled c.requires c.if-depth-eq0.false c.reserved.ensures c.read_part.ensures

pub read_inner-returns-in-Name : goal.read_inner-returns-in-Name
read_inner-returns-in-Name t c =
    inner_named c.requires c.if-depth-eq0.false c.reserved.ensures c.read_part.ensures {after = c.in-Name.after} (c.in_ok-opened.was ∙ ap Ok c.in-Name.is)

pub read_inner-returns-in-Rule : goal.read_inner-returns-in-Rule
read_inner-returns-in-Rule t c =
    inner_ruled c.requires c.if-depth-eq0.false c.reserved.ensures c.read_part.ensures (c.in_ok-opened.was ∙ ap Ok c.in-Rule.is) c.fresh_reference.ensures c.put_row.ensures

pub read_part-returns-in_err-head : goal.read_part-returns-in_err-head
read_part-returns-in_err-head t c =
    opened_refused _ c.requires _ c.head_at.ensures c.in_err-head.was (passed_on c.from_residual.result c.from_residual.ensures.1)

pub read_part-behind-start-requires : goal.read_part-behind-start-requires
read_part-behind-start-requires t c =
    omega (arith, c.well_formed, start_fits _ _ c.requires _ c.head_at.ensures c.in_ok-head.was)

pub read_part-read_inner-requires : goal.read_part-read_inner-requires
read_part-read_inner-requires t c =
    (omega arith, room_inner _ _ c.requires _ c.head_at.ensures c.in_ok-head.was c.behind-start.ensures)

pub read_part-returns-in_err-inner-in-One : goal.read_part-returns-in_err-inner-in-One
read_part-returns-in_err-inner-in-One t c =
    one_refused _ c.requires _ c.head_at.ensures c.in_ok-head.was c.behind-start.ensures c.in-One.is c.read_inner.ensures c.in_err-inner-in-One.was
    (passed_on c.from_residual-in_err-inner-in-One.result c.from_residual-in_err-inner-in-One.ensures.1)

pub read_part-returns-in_ok-inner-in-One : goal.read_part-returns-in_ok-inner-in-One
read_part-returns-in_ok-inner-in-One t c =
    opened_one _ c.requires _ c.head_at.ensures c.in_ok-head.was c.behind-start.ensures c.in-One.is c.read_inner.ensures
    c.in_ok-inner-in-One.was c.with_references-whole.ensures

pub read_part-read_inner-requires-in-Two : goal.read_part-read_inner-requires-in-Two
read_part-read_inner-requires-in-Two t c =
    (omega arith, room_inner _ _ c.requires _ c.head_at.ensures c.in_ok-head.was c.behind-start.ensures)

pub read_part-returns-in_err-first-in-Two : goal.read_part-returns-in_err-first-in-Two
read_part-returns-in_err-first-in-Two t c =
    first_refused _ c.requires _ c.head_at.ensures c.in_ok-head.was c.behind-start.ensures c.in-Two.is
    c.read_inner-in-Two.ensures c.in_err-first-in-Two.was
    (passed_on c.from_residual-in_err-first-in-Two.result c.from_residual-in_err-first-in-Two.ensures.1)

pub read_part-read_inner-requires-in-Two-2 : goal.read_part-read_inner-requires-in-Two-2
read_part-read_inner-requires-in-Two-2 t c =
    (omega arith, room_second c.requires _ c.behind-start.ensures c.read_inner-in-Two.ensures c.in_ok-first-in-Two.was)

pub read_part-returns-in_err-second-in-Two : goal.read_part-returns-in_err-second-in-Two
read_part-returns-in_err-second-in-Two t c =
    second_refused _ c.requires _ c.head_at.ensures c.in_ok-head.was c.behind-start.ensures c.in-Two.is
    c.read_inner-in-Two.ensures c.in_ok-first-in-Two.was c.read_inner-in-Two-2.ensures c.in_err-second-in-Two.was
    (passed_on c.from_residual-in_err-second-in-Two.result c.from_residual-in_err-second-in-Two.ensures.1)

pub read_part-returns-in_ok-second-in-Two : goal.read_part-returns-in_ok-second-in-Two
read_part-returns-in_ok-second-in-Two t c =
    opened_two _ c.requires _ c.head_at.ensures c.in_ok-head.was c.behind-start.ensures c.in-Two.is
    c.read_inner-in-Two.ensures c.in_ok-first-in-Two.was c.read_inner-in-Two-2.ensures c.in_ok-second-in-Two.was
    c.with_references-whole-in-Two.ensures

pub read_part-read_inner-requires-in-AtMost : goal.read_part-read_inner-requires-in-AtMost
read_part-read_inner-requires-in-AtMost t c =
    (omega arith, room_most _ _ c.requires _ c.head_at.ensures c.in_ok-head.was c.behind-start.ensures c.reserved.ensures)

pub read_part-returns-in_err-inner-in-AtMost : goal.read_part-returns-in_err-inner-in-AtMost
read_part-returns-in_err-inner-in-AtMost t c =
    most_refused _ c.requires _ c.head_at.ensures c.in_ok-head.was c.behind-start.ensures c.in-AtMost.is c.reserved.ensures
    c.read_inner-in-AtMost.ensures c.in_err-inner-in-AtMost.was
    (passed_on c.from_residual-in_err-inner-in-AtMost.result c.from_residual-in_err-inner-in-AtMost.ensures.1)

pub read_part-returns-in_ok-inner-in-AtMost : goal.read_part-returns-in_ok-inner-in-AtMost
read_part-returns-in_ok-inner-in-AtMost t c =
    opened_most _ c.requires _ c.head_at.ensures c.in_ok-head.was c.behind-start.ensures c.in-AtMost.is c.reserved.ensures
    c.read_inner-in-AtMost.ensures c.in_ok-inner-in-AtMost.was c.with_references-least.ensures c.fresh_reference.ensures
    c.put_row.ensures

pub read_part-returns-in-Name : goal.read_part-returns-in-Name
read_part-returns-in-Name t c =
    opened_name _ c.requires _ c.head_at.ensures c.in_ok-head.was c.behind-start.ensures c.in-Name.is c.name_part.ensures

pub read_part-returns-in-Alone : goal.read_part-returns-in-Alone
read_part-returns-in-Alone t c =
    opened_alone _ c.requires _ c.head_at.ensures c.in_ok-head.was c.behind-start.ensures c.in-Alone.is
