-- What an export reads off the equation that its call promises, where capi's laws do not say it of any kind of system: what a velocity read answers and stores.
use Prim.Native.Nat.{ℕ}
use Prim.Native.Nat.{ℕ}
use mathlib.Core.Path.{◌≡◌, refl, ap, ◌∙◌}
use mathlib.Core.List.{List, [], ◌∷◌}
use lib.Ieee.{Float}
use Rattle.multibody.specs.Model.{Model}
use Rattle.multibody.specs.Calls.{Answer, Outcome, outcome}
use Rattle.spatial_model.specs.Spatial.{space}
use Rattle.capi.specs.CallExports.{settings_of}
use Rattle.spatial_capi.specs.CallExports.{lent, velocity_number, velocity_out}

-- what a caller hands over as a header's settings is read back from the model
pub settings-kept : (dt unit normalized : Float) (built : ℕ) (bodies : List Float) (words : List ℕ) (numbers : List Float) → settings_of (lent dt unit normalized built bodies words numbers).params ≡ dt ∷ unit ∷ normalized ∷ []
settings-kept dt unit normalized built bodies words numbers = refl

-- what a velocity read answers and stores
pub velocity-told : {a : Answer space} {m : Model} {rows : List Float} {o : Outcome space} (out : List Float) (r : ℕ) → r ≡ velocity_number a out → outcome a m rows ≡ o → r ≡ velocity_number o.answer out
velocity-told out r e told = e ∙ ap (λ (o : Outcome space). velocity_number o.answer out) told

pub velocity-left : {a : Answer space} {m : Model} {rows : List Float} {o : Outcome space} (out : List Float) → outcome a m rows ≡ o → velocity_out a out ≡ velocity_out o.answer out
velocity-left out told = ap (λ (o : Outcome space). velocity_out o.answer out) told
