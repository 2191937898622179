-- What the words of a line say: theorems of proofs/SaysLaws.antt.
use Rattle.std.specs.Prelude.{◌≡◌, true, false, [], ◌∷◌, Option, Some, None, Float, take, drop}
use Rattle.std.specs.Float.Ieee.{eq}
use Rattle.study_text.specs.Rules.{index_of}
use Rattle.study_text.specs.Words.{bound_of}
use Rattle.study_text.specs.Citations.{rules}
use Rattle.study_text.specs.declared.rules.Rule.{Rule}
use Rattle.study_text.specs.declared.words.Bound.{Bound}
use Rattle.study_text.specs.declared.words.Bound.TheVariants.{Low, High}

-- a rule stands at its index in the list of rules
abbrev pub Indexed : Type 0
Indexed = (rule : Rule) → take 1 (drop (index_of rule) rules) ≡ rule ∷ []

-- low is the lower bound, and high the upper one, where the two differ
pub data Stands (impulse low high : Float) : Option Bound → Type 0 where
  low : eq low high ≡ false → eq impulse low ≡ true → Stands impulse low high (Some Low)
  high : eq low high ≡ false → eq impulse low ≡ false → eq impulse high ≡ true → Stands impulse low high (Some High)
  shut : eq low high ≡ true → Stands impulse low high None
  inside : eq low high ≡ false → eq impulse low ≡ false → eq impulse high ≡ false → Stands impulse low high None

abbrev pub Stood : Type 0
Stood = (impulse low high : Float) → Stands impulse low high (bound_of impulse low high)
