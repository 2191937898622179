-- The columns and fields that words fill.
use Prim.Native.Nat.{ℕ, ◌+◌, ◌-◌}
use mathlib.Core.Path.{◌≡◌, refl, sym, ap, ◌∙◌}
use mathlib.Core.List.{List, [], ◌∷◌, ◌++◌, map, append_assoc}
use borrow.Author.Tests.{eq-eqb, ne_eqb}
use lib.ListN.{length, get_or, replicate-append-replicate}
use Rattle.texts.specs.Ascii.{ascii, SPACE}
use Rattle.study_text.specs.Number.{blanks}
use Rattle.study_text.specs.Words.{number_of}
use Rattle.study_text.specs.Row.{column}
use Rattle.study_text.specs.Csv.{field, unit_of}
use Rattle.study_text.specs.Citations.{rules}
use Rattle.study_text.specs.declared.rules.Rule.{Rule}
use Rattle.study_text.specs.declared.rules.Rule.TheVariants.{Motor2, Motor0, Motor1, MotorF, Dof2, Dof0, Dof1, Limit2, Limit0, Limit1, LimitF}

-- ---- rules

each : (f g : Rule → List ℕ) → map f rules ≡ map g rules → (rule : Rule) → f rule ≡ g rule
each f g e Motor2 = ap (λ (l : List (List ℕ)). get_or l 0 []) e
each f g e Motor0 = ap (λ (l : List (List ℕ)). get_or l 1 []) e
each f g e Motor1 = ap (λ (l : List (List ℕ)). get_or l 2 []) e
each f g e MotorF = ap (λ (l : List (List ℕ)). get_or l 3 []) e
each f g e Dof2 = ap (λ (l : List (List ℕ)). get_or l 4 []) e
each f g e Dof0 = ap (λ (l : List (List ℕ)). get_or l 5 []) e
each f g e Dof1 = ap (λ (l : List (List ℕ)). get_or l 6 []) e
each f g e Limit2 = ap (λ (l : List (List ℕ)). get_or l 7 []) e
each f g e Limit0 = ap (λ (l : List (List ℕ)). get_or l 8 []) e
each f g e Limit1 = ap (λ (l : List (List ℕ)). get_or l 9 []) e
each f g e LimitF = ap (λ (l : List (List ℕ)). get_or l 10 []) e

-- a rule's number fills its column
pub number-column : (rule : Rule) → number_of rule ++ SPACE ∷ [] ≡ column 3 (number_of rule)
unfolding column
number-column = each (λ (rule : Rule). number_of rule ++ SPACE ∷ []) (λ (rule : Rule). column 3 (number_of rule)) refl

-- ---- columns and fields

pub column-blanks : (w : ℕ) (text : List ℕ) → text ++ blanks (w - length text + 1) ≡ column w text
unfolding column
column-blanks w text =
    ap (λ (l : List ℕ). text ++ l) (sym (replicate-append-replicate (w - length text) 1 SPACE))
    ∙ sym (append_assoc text (blanks (w - length text)) (SPACE ∷ []))

pub unit-angular : (i : ℕ) → i ≡ 2 → ascii "N*m*s," ≡ field (unit_of i)
unfolding field
unit-angular i h = simp (eq-eqb i 2 h)

pub unit-linear : (i : ℕ) → (i ≡ 2 → ⊥) → ascii "N*s," ≡ field (unit_of i)
unfolding field
unit-linear i h = simp (ne_eqb i 2 h)
