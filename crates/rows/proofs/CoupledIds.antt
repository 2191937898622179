-- The ids that the axes outside C give, and those of F, which M or T and C share. Assumes nothing.
use Prim.Native.Nat.{ℕ}
use native.Mathlib.Omega.{arith}
use mathlib.Core.Path.{◌≡◌, refl, ap, sym}
use mathlib.Core.Bool.{Bool, true, false, cond, ◌||◌}
use mathlib.Core.List.{List, [], ◌∷◌, ◌++◌, map}
use lib.Dec.{ltb}
use lib.ListN.{length}
use Rattle.rows.specs.declared.generic_joint.Masks.{Masks}
use Rattle.rows.specs.declared.joint_velocity_constraint.WritebackId.{WritebackId}
use Rattle.rows.specs.declared.joint_velocity_constraint.WritebackId.TheVariants.{Limit, Motor}
use Rattle.rows.specs.RowIds.{is_motor, is_limit, is_coupled, axes, keep, some, first_coupled, shares_linear}
use Rattle.rows.proofs.RowIdsCount.{some_first}

-- ---- what three axes give, in the order of the axes

pub split : (f : ℕ → WritebackId) (a b d : Bool) → cond a (f 2 ∷ []) [] ++ (cond b (f 0 ∷ []) [] ++ cond d (f 1 ∷ []) [])
    ≡ map f (cond a (2 ∷ cond b (0 ∷ cond d (1 ∷ []) []) (cond d (1 ∷ []) [])) (cond b (0 ∷ cond d (1 ∷ []) []) (cond d (1 ∷ []) [])))
split f true true true = refl
split f true true false = refl
split f true false true = refl
split f true false false = refl
split f false true true = refl
split f false true false = refl
split f false false true = refl
split f false false false = refl

-- ---- F

one-motor : (s b : Bool) (fc : List ℕ) (f : ℕ) → (s ≡ true → length fc ≡ 1) → fc ≡ cond b (f ∷ []) [] → cond s (Motor f ∷ []) [] ≡ cond s (map Motor fc) []
one-motor false b fc f h e = refl
one-motor true true fc f h e = sym (ap (λ t. map Motor t) e)
one-motor true false fc f h e = absurd (omega (arith, ap length e, h refl))

one-limit : (t : ℕ → Bool) (b : Bool) (f : ℕ) → cond (some t (cond b (f ∷ []) [])) (Limit f ∷ []) [] ≡ map Limit (keep t (cond b (f ∷ []) []))
one-limit t false f = refl
one-limit t true f = at (t f)
  where
    at : (b : Bool) → cond (b || false) (Limit f ∷ []) [] ≡ map Limit (cond b (f ∷ []) [])
    at true = refl
    at false = refl

or-false : (b : Bool) → (b || false) ≡ b
or-false true = refl
or-false false = refl

pub coupled-named : (t : ℕ → Bool) (fc : List ℕ) (f : ℕ) → fc ≡ cond (ltb f 2) (f ∷ []) [] → ltb f 2 ≡ true → some t fc ≡ t f
coupled-named t fc f e l = rw (e, l) (or-false (t f))

pub coupled-none : (t : ℕ → Bool) (fc : List ℕ) (f : ℕ) → fc ≡ cond (ltb f 2) (f ∷ []) [] → ltb f 2 ≡ false → some t fc ≡ false
coupled-none t fc f e l = rw (e, l)

module _ (k : Masks) (f : ℕ) (e : first_coupled 2 k ≡ cond (ltb f 2) (f ∷ []) []) where
  pub coupled-motor : cond (shares_linear 2 k) (Motor f ∷ []) [] ≡ cond (shares_linear 2 k) (map Motor (first_coupled 2 k)) []
  coupled-motor = one-motor (shares_linear 2 k) (ltb f 2) (first_coupled 2 k) f (some_first (is_motor k) (is_coupled k) (axes 0 2)) e

  pub coupled-limit : cond (some (is_limit k) (first_coupled 2 k)) (Limit f ∷ []) [] ≡ map Limit (keep (is_limit k) (first_coupled 2 k))
  coupled-limit = rw e (one-limit (is_limit k) (ltb f 2) f)
