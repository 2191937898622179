-- `warmed` meets its contract, by the warm coefficient and by whether it is substep 0.
use Rattle.std.specs.Prelude.{Some, Float}
use Prim.Native.Nat.{ℕ, zero, suc}
use mathlib.Core.Path.{◌≡◌, refl, sym, ◌∙◌}
use Rattle.floats.specs.Operators.{◌⊗◌}
use Rattle.rows.specs.Warmed.{warmed_of}
use Rattle.rows.proofs.joint_constraint_builder.warmed.Goals as goal

-- after substep 0
later : {Row : Type 0} (with_impulse : Row → Float → Row) (coeff : Float) (substep : ℕ) (seed prev : Float) (row : Row) → (substep ≡ 0 → ⊥)
    → warmed_of with_impulse (Some coeff) substep seed prev row ≡ with_impulse row (prev ⊗ coeff)
unfolding warmed_of
later with_impulse coeff zero seed prev row h = absurd (h refl)
later with_impulse coeff (suc substep) seed prev row h = refl

pub returns-then-substep_id-eq0 : goal.returns-then-substep_id-eq0
unfolding warmed_of
returns-then-substep_id-eq0 g c = rw (c.in-Some.is, c.if-substep_id-eq0.true) c.with_impulse.ensures

pub returns-else-substep_id-eq0 : goal.returns-else-substep_id-eq0
unfolding warmed_of
returns-else-substep_id-eq0 g c = rw c.in-Some.is (c.with_impulse-else-substep_id-eq0.ensures ∙ sym (later g.R.Row.with_impulse _ _ _ _ _ c.if-substep_id-eq0.false))

pub returns-in-None : goal.returns-in-None
unfolding warmed_of
returns-in-None g c = rw c.in-None.is
