-- `katydidzinc_space_read_velocity` meets its contract: what its call promises, of the header that was made, read part by part.
use mathlib.Core.Path.{◌∙◌}
use mathlib.Core.List.{[]}
use Rattle.spatial_capi.proofs.CallExportsLaws.{velocity-told, velocity-left}
use Rattle.spatial_capi.proofs.calls.katydidzinc_space_read_velocity.Goals as goal

pub returns-in-Ok : goal.returns-in-Ok
returns-in-Ok c =
    let told = rw c.header-h.ensures at (c.in-Ok.ensures []) in
    record { value = velocity-told _ _ c.put_velocity.ensures.value told; out_after = c.put_velocity.ensures.out_after ∙ velocity-left _ told }

pub returns-in-Err : goal.returns-in-Err
returns-in-Err c =
    let told = rw c.header-h.ensures at (c.in-Err.ensures []) in
    record { value = velocity-told _ _ c.number.ensures told; out_after = velocity-left _ told }
