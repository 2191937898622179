-- `id_number` meets its contract, case by case.
use mathlib.Core.Path.{sym, ap}
use Rattle.spatial_capi.specs.Stored.{id_number}
use Rattle.spatial_capi.proofs.stored.id_number.Goals as goal

pub returns-in-Dof : goal.returns-in-Dof
returns-in-Dof c = sym (ap id_number c.in-Dof.is)

pub returns-in-Limit : goal.returns-in-Limit
returns-in-Limit c = sym (ap id_number c.in-Limit.is)

pub returns-in-Motor : goal.returns-in-Motor
returns-in-Motor c = sym (ap id_number c.in-Motor.is)
