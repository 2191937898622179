-- `simd_inv` meets its contract: zero where both tests hold, and else the quotient.
use Rattle.floats.specs.Utils.{simd_inv_of}
use Rattle.floats.proofs.utils.simd_inv.Goals as goal
use Rattle.floats.proofs.utils.simd_inv.Goals.{else-val-via-else-val, else-val-via-then-val+else-val-2}

pub returns-then-val-2 : goal.returns-then-val-2
unfolding simd_inv_of
returns-then-val-2 c = simp (c.if-val.true, c.if-val-2.true)

pub returns-else-val : goal.returns-else-val
unfolding simd_inv_of
returns-else-val c = elim c.else-val.branch [ else-val-via-then-val+else-val-2 w ↦ simp (w.if-val.true, w.if-val-2.false) | else-val-via-else-val w ↦ simp w.if-val.false ]
