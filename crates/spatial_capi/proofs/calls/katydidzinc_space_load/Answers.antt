-- `katydidzinc_space_load` meets its contract: what its call promises, of the header that was made, read part by part.
use mathlib.Core.Path.{◌∙◌}
use Rattle.capi.proofs.CallExportsLaws.{load-marked, marked-told}
use Rattle.spatial_capi.proofs.calls.katydidzinc_space_load.Goals as goal

pub returns : goal.returns
returns c =
    let told = rw c.header-h.ensures at c.load.ensures in
    marked-told _ (c.load_number.ensures ∙ load-marked _ _ _) told
