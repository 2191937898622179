-- The faults of a text that cannot be read; each has a number in the C interface.
use Rattle.std.specs.Prelude.{ℕ, Option, Some, None}
use Rattle.study_reader.specs.declared.faults.Fault.{Fault}
use Rattle.study_reader.specs.declared.faults.Fault.TheVariants as variant
use Rattle.study_reader.specs.declared.faults.FaultAt.{FaultAt}

abbrev pub fault_unknown : Fault
fault_unknown = variant.Unknown

abbrev pub fault_name : Fault
fault_name = variant.Name

abbrev pub fault_taken : Fault
fault_taken = variant.Taken

abbrev pub fault_no_body : Fault
fault_no_body = variant.NoBody

abbrev pub fault_number : Fault
fault_number = variant.Number

abbrev pub fault_digits : Fault
fault_digits = variant.Digits

abbrev pub fault_line_end : Fault
fault_line_end = variant.LineEnd

abbrev pub fault_axis : Fault
fault_axis = variant.Axis

abbrev pub fault_bodies_full : Fault
fault_bodies_full = variant.BodiesFull

abbrev pub fault_joints_full : Fault
fault_joints_full = variant.JointsFull

abbrev pub fault_after_calls : Fault
fault_after_calls = variant.AfterCalls

abbrev pub fault_elsewhere : Fault
fault_elsewhere = variant.Elsewhere

abbrev pub fault_whole_number : Fault
fault_whole_number = variant.WholeNumber

abbrev pub fault_no_joint : Fault
fault_no_joint = variant.NoJoint

abbrev pub fault_no_repeat : Fault
fault_no_repeat = variant.NoRepeat

abbrev pub fault_nested : Fault
fault_nested = variant.Nested

abbrev pub fault_open_repeat : Fault
fault_open_repeat = variant.OpenRepeat

abbrev pub fault_model : Fault
fault_model = variant.Model

abbrev pub fault_world_name : Fault
fault_world_name = variant.WorldName

abbrev pub fault_warm : Fault
fault_warm = variant.Warm

abbrev pub fault_csv : Fault
fault_csv = variant.Csv

abbrev pub fault_file_name : Fault
fault_file_name = variant.FileName

abbrev pub fault_long_name : Fault
fault_long_name = variant.LongName

abbrev pub fault_plain_name : Fault
fault_plain_name = variant.PlainName

abbrev pub fault_mask : Fault
fault_mask = variant.Mask

abbrev pub fault_substeps : Fault
fault_substeps = variant.Substeps

abbrev pub number : Fault → ℕ
number variant.Unknown = 1
number variant.Name = 2
number variant.Taken = 3
number variant.NoBody = 4
number variant.Number = 5
number variant.Digits = 6
number variant.LineEnd = 7
number variant.Axis = 8
number variant.BodiesFull = 9
number variant.JointsFull = 10
number variant.AfterCalls = 11
number variant.Elsewhere = 12
number variant.WholeNumber = 13
number variant.NoJoint = 14
number variant.NoRepeat = 15
number variant.Nested = 16
number variant.OpenRepeat = 17
number variant.Model = 18
number variant.WorldName = 19
number variant.Warm = 20
number variant.Csv = 21
number variant.FileName = 22
number variant.LongName = 23
number variant.PlainName = 24
number variant.Mask = 25
number variant.Substeps = 26
number (variant.Other k) = k

abbrev pub fault_at : Fault → ℕ → FaultAt
fault_at fault place = record { fault = fault; at = place }

-- 0 where there is none
abbrev pub number_of : Option FaultAt → ℕ
number_of (Some f) = number f.fault
number_of None = 0

abbrev pub offset_of : Option FaultAt → ℕ
offset_of (Some f) = f.at
offset_of None = 0
