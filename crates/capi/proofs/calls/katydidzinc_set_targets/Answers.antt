-- `katydidzinc_set_targets` meets its contract: what its call promises, of the header that was made, read part by part.
use mathlib.Core.Path.{◌∙◌}
use mathlib.Core.List.{[]}
use Rattle.capi.proofs.CallExportsLaws.{plain-number, number-told, numbers-left}
use Rattle.capi.proofs.calls.katydidzinc_set_targets.Goals as goal

pub returns : goal.returns
returns c =
    let told = rw c.header-h.ensures at (c.set_targets.ensures []) in
    record { value = number-told _ (c.plain_number.ensures ∙ plain-number _ _) told; numbers_after = numbers-left told }
