-- `run_call` meets its contract, call by call.
use Rattle.study_run.specs.Runs.{run_call}
use Rattle.study_run.proofs.turns.run_call.Goals as goal

pub returns-in-Load : goal.returns-in-Load
unfolding run_call
returns-in-Load c = rw c.in-Load.is c.run_load.ensures

pub returns-in-Place : goal.returns-in-Place
unfolding run_call
returns-in-Place c = rw c.in-Place.is c.run_place.ensures

pub returns-in-Build : goal.returns-in-Build
unfolding run_call
returns-in-Build c = rw c.in-Build.is c.run_build.ensures

pub returns-in-WarmStart : goal.returns-in-WarmStart
unfolding run_call
returns-in-WarmStart c = rw c.in-WarmStart.is c.run_warm_start.ensures

pub returns-in-Sweep : goal.returns-in-Sweep
unfolding run_call
returns-in-Sweep c = rw c.in-Sweep.is c.run_sweep.ensures

pub returns-in-RemoveBias : goal.returns-in-RemoveBias
unfolding run_call
returns-in-RemoveBias c = rw c.in-RemoveBias.is c.run_remove_bias.ensures

pub returns-in-WriteBack : goal.returns-in-WriteBack
unfolding run_call
returns-in-WriteBack c = rw c.in-WriteBack.is c.run_write_back.ensures

pub returns-in-SetMasks : goal.returns-in-SetMasks
unfolding run_call
returns-in-SetMasks c = rw c.in-SetMasks.is c.run_masks.ensures

pub returns-in-Frame : goal.returns-in-Frame
unfolding run_call
returns-in-Frame c = rw c.in-Frame.is c.run_frame.ensures

pub returns-in-Settle : goal.returns-in-Settle
unfolding run_call
returns-in-Settle c = rw c.in-Settle.is c.run_settle.ensures

pub returns-in-SetTargets : goal.returns-in-SetTargets
unfolding run_call
returns-in-SetTargets c = rw c.in-SetTargets.is

pub returns-in-ReadRows : goal.returns-in-ReadRows
unfolding run_call
returns-in-ReadRows c = rw (c.in-ReadRows.is, c.rows_reply.ensures)

pub returns-in-ReadVelocity : goal.returns-in-ReadVelocity
unfolding run_call
returns-in-ReadVelocity c = rw (c.in-ReadVelocity.is, c.velocity_reply.ensures)

pub returns-in-Table : goal.returns-in-Table
unfolding run_call
returns-in-Table c = rw (c.in-Table.is, c.table_reply.ensures)
