-- `find_body` meets its contract. The loop's invariant: the first of those that are left is the first of all.
use mathlib.Core.Path.{◌≡◌}
use mathlib.Core.List.{List}
use mathlib.Core.Bool.{Bool}
use Prim.Native.Nat.{ℕ, ◌-◌}
use Rattle.study_reader.specs.Names.{body_name, first_from}
use Rattle.study_reader.specs.Words.{same_words}
use Rattle.study_reader.specs.declared.words.Word.{Word}
use Rattle.study_reader.proofs.names.find_body.Given as goal

abbrev pub named : List ℕ → List ℕ → Word → ℕ → Bool
named text names w i = same_words text (body_name names i) w

abbrev pub invariant-loop-i : goal.invariant-loop-i
invariant-loop-i l = first_from (named l.text l.names l.w) l.i (l.bodies - l.i) ≡ first_from (named l.text l.names l.w) 0 l.bodies
