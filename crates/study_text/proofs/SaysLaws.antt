-- What the words of a line say.
use mathlib.Core.Path.{◌≡◌, refl}
use mathlib.Core.Bool.{Bool, true, false, cond}
use lib.Ieee.{eq}
use Rattle.std.specs.Prelude.{Some, None}
use Rattle.study_text.specs.Says.{Indexed, Stands, Stood}
use Rattle.study_text.specs.Says.Stands.{low, high, shut, inside}
use Rattle.study_text.specs.declared.rules.Rule.TheVariants.{Motor2, Motor0, Motor1, MotorF, Dof2, Dof0, Dof1, Limit2, Limit0, Limit1, LimitF}
use Rattle.study_text.specs.declared.words.Bound.TheVariants.{Low, High}

pub indexed : Indexed
indexed Motor2 = refl
indexed Motor0 = refl
indexed Motor1 = refl
indexed MotorF = refl
indexed Dof2 = refl
indexed Dof0 = refl
indexed Dof1 = refl
indexed Limit2 = refl
indexed Limit0 = refl
indexed Limit1 = refl
indexed LimitF = refl

pub stood : Stood
stood x l h = go (eq l h) (eq x l) (eq x h) refl refl refl
  where
    go : (a b c : Bool) → eq l h ≡ a → eq x l ≡ b → eq x h ≡ c → Stands x l h (cond a None (cond b (Some Low) (cond c (Some High) None)))
    go true b c e f g = shut e
    go false true c e f g = low e f
    go false false true e f g = high e f g
    go false false false e f g = inside e f g
