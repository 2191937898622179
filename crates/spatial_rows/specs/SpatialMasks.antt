-- The masks that give a joint in space its rows: limits and motors on linear axes alone, and nothing coupled. Rules 3 and 17 refuse masks that have more, so of a
-- model that they let through these are the masks themselves.
use Rattle.std.specs.Prelude.{◌%◌}
use Rattle.rows.specs.declared.generic_joint.Masks.{Masks}

abbrev pub spatial_masks : Masks → Masks
spatial_masks k = record {
  locked_axes = k.locked_axes % 64;
  limit_axes = k.limit_axes % 8;
  motor_axes = k.motor_axes % 8;
  coupled_axes = 0;
}
