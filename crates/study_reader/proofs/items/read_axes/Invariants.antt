use mathlib.Core.Path.{◌≡◌}
use Prim.Native.Nat.{◌-◌}
use Rattle.study_reader.specs.Items.{axes_from}
use Rattle.study_reader.proofs.items.read_axes.Given as goal

abbrev pub invariant-loop : goal.invariant-loop
invariant-loop l = axes_from l.text l.place l.origin (3 - l.counter) l.mask l.at ≡ axes_from l.text l.place l.origin 3 0 l.from
