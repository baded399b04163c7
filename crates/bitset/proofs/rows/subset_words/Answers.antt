use Prim.Native.Nat.{◌+◌, ◌*◌}
use mathlib.Core.Path.{sym}
use Rattle.bitset.proofs.Members.{passed_done, subset_of, subset_fails}
use Rattle.bitset.proofs.rows.subset_words.Goals as goal

pub returns-then-word-u : goal.returns-then-word-u
returns-then-word-u c =
    let a = c.args in
    sym
    (subset_fails a.t.now a.r a.u.now a.s a.w
    c.loop-i.i
    c.loop-i-test.true
    (c.type_inv.t (a.r * a.w + c.loop-i.i)).fits
    c.if-word-u.true)

pub returns : goal.returns
returns c =
    let a = c.args in
    sym (subset_of a.t.now a.r a.u.now a.s a.w (passed_done c.loop-i-test.false c.loop-i.invariant))
