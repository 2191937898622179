-- `katydidzinc_space_write_back` meets its contract: what its call promises, of the header that was made, read part by part.
use mathlib.Core.Path.{◌∙◌}
use Rattle.capi.proofs.CallExportsLaws.{plain-number, number-told, numbers-left}
use Rattle.spatial_capi.proofs.calls.katydidzinc_space_write_back.Goals as goal

pub returns : goal.returns
returns c =
    let told = rw c.header-h.ensures at c.write_back.ensures in
    record { value = number-told _ (c.plain_number.ensures ∙ plain-number _ _) told; numbers_after = numbers-left told }
