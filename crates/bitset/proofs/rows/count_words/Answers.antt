use Prim.Native.Nat.{◌+◌, ◌*◌}
use native.Mathlib.Omega.{arith}
use Rattle.bitset.proofs.Members.{counted_none, counted_more, counted_room}
use Rattle.bitset.proofs.rows.count_words.Goals as goal

pub loop-i-init : goal.loop-i-init
loop-i-init c = counted_none

pub overflow_add-n : goal.overflow_add-n
overflow_add-n c =
    let a = c.args in
    omega (
      arith,
      counted_room c.loop-i-test.true
          (c.type_inv.t (a.r * a.w + c.loop-i.i)).fits
          c.loop-i.invariant,
    )

pub loop-i-preserved : goal.loop-i-preserved
loop-i-preserved c =
    let a = c.args in
    counted_more c.loop-i-test.true
    (c.type_inv.t (a.r * a.w + c.loop-i.i)).fits
    c.loop-i.invariant
