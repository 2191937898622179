-- `nine_digits` meets its contract, by the arms on the parts of the number.
use mathlib.Core.Path.{sym, ap, subst, ◌∙◌}
use Prim.Native.Nat.{ℕ}
use mathlib.Core.List.{List}
use lib.Dec.{T}
use Rattle.floats.proofs.BitsLaws.{Finite-parts, finite-parts}
use Rattle.decimals.specs.Spelled.{nine_text, signed_text, spelled}
use Rattle.decimals.proofs.SpelledLaws.{digits-nan, digits-infinite, digits-finite}
use Rattle.decimals.proofs.spelled.nine_digits.Goals as goal
use Rattle.decimals.proofs.spelled.nine_digits.Goals.{In-Finite}

-- in the arm of a finite number
finite : (c : In-Finite) → Finite-parts c.args.x c.in-Finite.negative c.in-Finite.d c.in-Finite.k
finite c =
    finite-parts c.args.x c.in-Finite.negative c.in-Finite.d c.in-Finite.k (subst T (sym c.well_formed.0.1) tt)
    (sym c.parts_of.ensures ∙ c.in-Finite.is)

pub nine_of-requires : goal.nine_of-requires
nine_of-requires c = ((finite c).digits, (finite c).top)

pub returns-in-Nan : goal.returns-in-Nan
unfolding spelled
returns-in-Nan c = digits-nan c.args.x (sym c.parts_of.ensures ∙ c.in-Nan.is)

pub returns-in-Infinite : goal.returns-in-Infinite
returns-in-Infinite c = c.infinite_text.ensures ∙ digits-infinite c.args.x _ (sym c.parts_of.ensures ∙ c.in-Infinite.is)

pub returns-in-Finite : goal.returns-in-Finite
returns-in-Finite c = c.signed_text.ensures ∙ ap (λ (t : List ℕ). spelled (signed_text c.in-Finite.negative t)) (c.nine_text.ensures ∙ ap nine_text c.nine_of.ensures) ∙ digits-finite (finite c.before.before.before)
