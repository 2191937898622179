-- The rules that a table cites, in words below it.
use Rattle.std.specs.Prelude.{ℕ, cond}
use mathlib.Core.List.{List, [], ◌∷◌, ◌++◌, flat_map}
use Rattle.texts.specs.Ascii.{ascii}
use Rattle.rows.specs.RowIds.{has_axis}
use Rattle.study_text.specs.Rules.{index_of}
use Rattle.study_text.specs.Words.{number_of, definition_text}
use Rattle.study_text.specs.declared.rules.Rule.{Rule}
use Rattle.study_text.specs.declared.rules.Rule.TheVariants.{Motor2, Motor0, Motor1, MotorF, Dof2, Dof0, Dof1, Limit2, Limit0, Limit1, LimitF}

-- the row's id, its kind and which axes have it; what it does; its bounds
unfoldable pub words_text : Rule → List ℕ
words_text Motor2 = ascii "Motor(2), angular motor: driven, not locked, not coupled. It drives the relative turning to its targets; bounds plus and minus maximum force times dt."
words_text Motor0 = ascii "Motor(0), motor along x: driven, not locked, not coupled. It drives the relative motion to its targets; bounds plus and minus maximum force times dt."
words_text Motor1 = ascii "Motor(1), motor along y: driven, not locked, not coupled. It drives the relative motion to its targets; bounds plus and minus maximum force times dt."
words_text MotorF = ascii "Motor(F), coupled motor: a driven axis that is not locked is coupled; the lowest coupled axis gives its numbers. Bounds plus and minus maximum force times dt."
words_text Dof2 = ascii "Dof(2), angular lock: locked. It takes the relative turning away, and the angle's error at the joint's softness; bounds are the largest number, either way."
words_text Dof0 = ascii "Dof(0), lock along x: locked. It takes the relative motion away, and the distance at the joint's softness; bounds are the largest number, either way."
words_text Dof1 = ascii "Dof(1), lock along y: locked. It takes the relative motion away, and the distance at the joint's softness; bounds are the largest number, either way."
words_text Limit2 = ascii "Limit(2), angular limit: limited, not locked, not coupled. The angle from the limit's centre is kept within half the range; inside, the bounds are 0 and 0, and a side opens where its end is touched or passed."
words_text Limit0 = ascii "Limit(0), limit along x: limited, not locked, not coupled. Inside its two ends the bounds are 0 and 0, and a side opens where its end is touched or passed."
words_text Limit1 = ascii "Limit(1), limit along y: limited, not locked, not coupled. Inside its two ends the bounds are 0 and 0, and a side opens where its end is touched or passed."
words_text LimitF = ascii "Limit(F), coupled limit: x or y is coupled and the lowest of these is limited and not locked. The distance over the coupled axes is kept below the upper end; bounds 0 and infinity."

-- the Rust function
abbrev pub rust_text : Rule → List ℕ
rust_text Motor2 = ascii "motor_angular"
rust_text Motor0 = ascii "motor_linear"
rust_text Motor1 = ascii "motor_linear"
rust_text MotorF = ascii "motor_linear_coupled"
rust_text Dof2 = ascii "lock_angular"
rust_text Dof0 = ascii "lock_linear"
rust_text Dof1 = ascii "lock_linear"
rust_text Limit2 = ascii "limit_angular"
rust_text Limit0 = ascii "limit_linear"
rust_text Limit1 = ascii "limit_linear"
rust_text LimitF = ascii "limit_linear_coupled"

-- ---- one rule, cited in full: its number and words, the definition that makes the row and its file, the Rust function that this follows

unfoldable pub cited_words : Rule → List ℕ
cited_words rule = ascii "  " ++ number_of rule ++ ascii "  " ++ words_text rule ++ ascii "\n"

unfoldable pub cited_source : Rule → List ℕ
cited_source rule =
    ascii "       Definition " ++ definition_text rule ++ ascii " in crates/rows/specs/Makers.antt, after the Rust's "
    ++ rust_text rule ++ ascii " in joint_constraint_helper.rs.\n"

unfoldable pub citation : Rule → List ℕ
citation rule = cited_words rule ++ cited_source rule

-- ---- the rules of a table

-- document 01's order
abbrev pub rules : List Rule
rules = Motor2 ∷ Motor0 ∷ Motor1 ∷ MotorF ∷ Dof2 ∷ Dof0 ∷ Dof1 ∷ Limit2 ∷ Limit0 ∷ Limit1 ∷ LimitF ∷ []

-- where the table has a row of the rule: bit i of `used` stands for rule i of the order
unfoldable pub cited_in : ℕ → Rule → List ℕ
cited_in used rule = cond (has_axis used (index_of rule)) (citation rule) []

unfoldable pub rules_heading : List ℕ
rules_heading = ascii "impulses and bounds in millionths of N s (x, y) or N m s (angle). A number with a point is not in millionths but in the unit itself: the residual, and what is 2147.483648 or more in size. rules:\n"

-- each rule once
unfoldable pub rules_text : ℕ → List ℕ
rules_text used = rules_heading ++ flat_map (cited_in used) rules
