-- `katydidzinc_space_build` meets its contract: what its call promises, of the header that was made, read part by part.
use mathlib.Core.Path.{◌∙◌}
use Rattle.capi.proofs.CallExportsLaws.{build-marked, marked-told, rows_left}
use Rattle.spatial_capi.proofs.calls.katydidzinc_space_build.Goals as goal

pub returns : goal.returns
returns c =
    let told = rw (c.header-h.ensures, c.warm_of-warmstart.ensures) at c.build.ensures in
    record { value = marked-told _ (c.build_number.ensures ∙ build-marked _ _ _) told; rows_after = rows_left told }
