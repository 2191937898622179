-- `find_joint` meets its contract. The loop's invariant: the first of those that are left is the first of all.
use mathlib.Core.Path.{◌≡◌}
use mathlib.Core.List.{List}
use mathlib.Core.Bool.{Bool}
use Prim.Native.Nat.{ℕ, ◌-◌}
use Rattle.study_reader.specs.Names.{joint_name, first_from}
use Rattle.study_reader.specs.Words.{same_words}
use Rattle.study_reader.specs.declared.words.Word.{Word}
use Rattle.study_reader.proofs.names.find_joint.Given as goal

abbrev pub named : List ℕ → List ℕ → Word → ℕ → Bool
named text names w j = same_words text (joint_name names j) w

abbrev pub invariant-loop-j : goal.invariant-loop-j
invariant-loop-j l = first_from (named l.text l.names l.w) l.j (l.joints - l.j) ≡ first_from (named l.text l.names l.w) 0 l.joints
