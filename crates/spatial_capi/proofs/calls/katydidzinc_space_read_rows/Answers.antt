-- `katydidzinc_space_read_rows` meets its contract: what its call promises, of the header that was made, read part by part.
use Rattle.multibody.specs.JointRows.{row_masks_at}
use Rattle.spatial_model.specs.Spatial.{space}
use Rattle.spatial_capi.proofs.ReadLaws.{rows-told, rows-refused}
use Rattle.spatial_capi.proofs.calls.katydidzinc_space_read_rows.Goals as goal

pub returns-in-Ok : goal.returns-in-Ok
returns-in-Ok c =
    let e = rows-told (row_masks_at space c.args.words.now c.args.joint) (rw c.header-h.ensures at c.in-Ok.ensures.rows_value) c.in-Ok.ensures.filled in
    record { value = rw e (rw c.put_read-stored.ensures.value at c.rows_number.ensures); out_after = rw e c.put_read-stored.ensures.out_after; ids_after = rw e c.put_read-stored.ensures.ids_after }

pub returns-in-Err : goal.returns-in-Err
returns-in-Err c =
    let e = rows-refused (row_masks_at space c.args.words.now c.args.joint) (rw c.header-h.ensures at c.in-Err.ensures.rows_value) in
    record { value = rw e c.number.ensures; out_after = rw e; ids_after = rw e }
