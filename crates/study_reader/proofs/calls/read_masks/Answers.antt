use mathlib.Core.Path.{sym, ap, ◌≡◌, ◌∙◌, refl}
use Prim.Native.Nat.{◌+◌, ◌-◌}
use native.Mathlib.Omega.{arith}
use Rattle.study_reader.specs.Calls.{mask_steps}
use Rattle.study_reader.proofs.CallLaws.{masks-step, masks-done}
use Rattle.study_reader.proofs.calls.read_masks.Goals as goal

pub loop-init : goal.loop-init
loop-init c = refl

pub loop-preserved : goal.loop-preserved
loop-preserved c =
    let e : 16 - (c.loop.counter + 1) ≡ 16 - c.loop.counter - 1 = omega arith in
    rw (c.mask_step-r.ensures, e) (sym (masks-step _ (16 - c.loop.counter) c.loop.r (omega arith)) ∙ c.loop.invariant)

pub returns : goal.returns
returns c =
    sym (masks-done _ (16 - c.loop.counter) c.loop.r (omega arith)) ∙ c.loop.invariant ∙ ap (mask_steps _ 16) c.read_joint-r.ensures
