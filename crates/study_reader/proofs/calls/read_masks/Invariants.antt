use mathlib.Core.Path.{◌≡◌}
use Prim.Native.Nat.{◌-◌}
use Rattle.study_reader.specs.Calls.{mask_steps}
use Rattle.study_reader.proofs.calls.read_masks.Given as goal

abbrev pub invariant-loop : goal.invariant-loop
invariant-loop l = mask_steps l.text (16 - l.counter) l.r ≡ mask_steps l.text 16 l.initial.r
