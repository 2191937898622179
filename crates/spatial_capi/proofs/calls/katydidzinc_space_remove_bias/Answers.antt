-- `katydidzinc_space_remove_bias` meets its contract: what its call promises, of the header that was made, read part by part.
use mathlib.Core.Path.{◌∙◌}
use Rattle.capi.proofs.CallExportsLaws.{plain-number, number-told, rows_left}
use Rattle.spatial_capi.proofs.calls.katydidzinc_space_remove_bias.Goals as goal

pub returns : goal.returns
returns c =
    let told = rw c.header-h.ensures at c.remove_bias.ensures in
    record { value = number-told _ (c.plain_number.ensures ∙ plain-number _ _) told; rows_after = rows_left told }
