-- `katydidzinc_place` meets its contract: what its call promises, of the header that was made, read part by part.
use mathlib.Core.Path.{◌∙◌}
use mathlib.Core.List.{[]}
use Rattle.capi.proofs.CallExportsLaws.{plain-number, number-told, bodies-left}
use Rattle.capi.proofs.calls.katydidzinc_place.Goals as goal

pub returns : goal.returns
returns c =
    let told = rw c.header-h.ensures at (c.place.ensures []) in
    record { value = number-told _ (c.plain_number.ensures ∙ plain-number _ _) told; bodies_after = bodies-left told }
