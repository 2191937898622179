-- The words of a line.
use Rattle.std.specs.Prelude.{ℕ, cond, List, Option, Some, None, eqb, Float}
use Rattle.std.specs.Float.Ieee.{eq}
use Rattle.texts.specs.Ascii.{ascii}
use Rattle.study_text.specs.Definitions.{definition_of}
use Rattle.study_text.specs.declared.rules.Rule.{Rule}
use Rattle.study_text.specs.declared.rules.Rule.TheVariants.{Motor2, Motor0, Motor1, MotorF, Dof2, Dof0, Dof1, Limit2, Limit0, Limit1, LimitF}
use Rattle.study_text.specs.declared.words.Bound.{Bound}
use Rattle.study_text.specs.declared.words.Bound.TheVariants.{Low, High}

-- the bound that an impulse is equal to, by IEEE 754's equality; none where the two bounds are equal, as those of an idle stop are
abbrev pub bound_of : Float → Float → Float → Option Bound
bound_of impulse low high = cond (eq low high) None (cond (eq impulse low) (Some Low) (cond (eq impulse high) (Some High) None))

abbrev pub bound_text : Option Bound → List ℕ
bound_text (Some Low) = ascii "low"
bound_text (Some High) = ascii "high"
bound_text None = ascii "-"

-- how many of a joint's motors the last round that was swept found low or high (multibody, `sweep_counts`), at most its three axes; `-` where no round was swept since the rows were made
abbrev pub motors_text : Option ℕ → List ℕ
motors_text None = ascii "-"
motors_text (Some motors) = cond (eqb motors 0) (ascii "0") (cond (eqb motors 1) (ascii "1") (cond (eqb motors 2) (ascii "2") (ascii "3")))

-- the rule's number: the group and the place in it
abbrev pub number_of : Rule → List ℕ
number_of Motor2 = ascii "1.1"
number_of Motor0 = ascii "1.2"
number_of Motor1 = ascii "1.3"
number_of MotorF = ascii "1.4"
number_of Dof2 = ascii "2.1"
number_of Dof0 = ascii "2.2"
number_of Dof1 = ascii "2.3"
number_of Limit2 = ascii "2.4"
number_of Limit0 = ascii "2.5"
number_of Limit1 = ascii "2.6"
number_of LimitF = ascii "2.7"

-- the name of the definition that makes the rule's rows
abbrev pub definition_text : Rule → List ℕ
definition_text rule = (definition_of rule).name
