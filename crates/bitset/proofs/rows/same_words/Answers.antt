use Prim.Native.Nat.{◌+◌, ◌*◌}
use mathlib.Core.Path.{sym}
use Rattle.bitset.proofs.Members.{passed_done, same_of, same_fails}
use Rattle.bitset.proofs.rows.same_words.Goals as goal

pub returns-then-t-r : goal.returns-then-t-r
returns-then-t-r c =
    let a = c.args in
    sym
    (same_fails a.t.now a.r a.t.now a.s a.w
    c.loop-i.i
    c.loop-i-test.true
    (c.type_inv.t (a.r * a.w + c.loop-i.i)).fits
    (c.type_inv.t (a.s * a.w + c.loop-i.i)).fits
    c.if-t-r.true)

pub returns : goal.returns
returns c =
    let a = c.args in
    sym (same_of a.t.now a.r a.t.now a.s a.w (passed_done c.loop-i-test.false c.loop-i.invariant))
