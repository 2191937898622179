-- Motor targets from a table (document 02, request R-6): what the records of a table set in a model.
use Rattle.std.specs.Prelude.{List, [], ◌∷◌, Float}
use Rattle.motor_table.specs.Tables.{Table}
use Rattle.motor_table.specs.Tables.Table.{granted, refused}
use Rattle.motor_table.specs.Targets.{target_of}
use Rattle.motor_table.specs.declared.record.Entry.{Entry}
use Rattle.model.specs.Store.{put_target}

-- one record: the target velocity of its joint's axis
abbrev pub set_record : List Float → Entry → List Float
set_record numbers e = put_target numbers e.joint.size e.axis.size (target_of e.thousandths)

-- in the records' order, so that a later one for the same axis wins
unfoldable pub set_records : List Float → List Entry → List Float
set_records numbers [] = numbers
set_records numbers (e ∷ es) = set_records (set_record numbers e) es

-- a table that is refused sets no target
unfoldable pub set_table : List Float → Table → List Float
set_table numbers (granted es) = set_records numbers es
set_table numbers (refused k) = numbers
