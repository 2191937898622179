-- A line tells its masks (`line-tells`), so that no two lines are the same, and LF stands at its end alone (`one_line`).
use Prim.Native.Nat.{ℕ, ◌<◌}
use mathlib.Core.Path.{◌≡◌, refl, sym, ap, ◌∙◌}
use mathlib.Core.Bool.{Bool, true, false, cond}
use mathlib.Core.List.{List, [], ◌∷◌, ◌++◌, flat_map}
use native.Mathlib.Omega.{arith}
use lib.Dec.{eqb}
use lib.ListN.{length, get_or}
use Rattle.rows.specs.RowIds.{row_ids}
use Rattle.rows.specs.declared.generic_joint.Masks.{Masks}
use Rattle.rows.specs.declared.joint_velocity_constraint.WritebackId.{WritebackId}
use Rattle.rows.specs.declared.joint_velocity_constraint.WritebackId.TheVariants.{Dof, Limit, Motor}
use Rattle.rows.proofs.RowIdsLaws.{All}
use Rattle.catalogue.specs.Choices.{masks}
use Rattle.texts.specs.Ascii.{LF}
use Rattle.texts.specs.Digits.{digit}
use Rattle.catalogue.specs.Text.{axis_digit, spaced_id, ids_text, head_text, line_text}

-- the byte at a place of the line
byte : ℕ → Masks → ℕ
byte i k = get_or (line_text k) i 0

bytes-of : (k : Masks) → (byte 0 k ≡ digit k.locked_axes) × (byte 2 k ≡ digit k.limit_axes) × (byte 4 k ≡ digit k.motor_axes) × (byte 6 k ≡ digit k.coupled_axes)
unfolding byte line_text head_text
bytes-of k = (refl, refl, refl, refl)

same-digit : (a b : ℕ) → digit a ≡ digit b → a ≡ b
same-digit a b e = omega arith

pub line-tells : (k k' : Masks) → line_text k ≡ line_text k' → k ≡ k'
unfolding byte
line-tells k k' e =
    let here : (i : ℕ) → byte i k ≡ byte i k' = λ i. ap (λ (l : List ℕ). get_or l i 0) e in
    let b = bytes-of k in
    let b' = bytes-of k' in
    let locked : k.locked_axes ≡ k'.locked_axes = same-digit _ _ (sym b.0 ∙ here 0 ∙ b'.0) in
    let limit : k.limit_axes ≡ k'.limit_axes = same-digit _ _ (sym b.1 ∙ here 2 ∙ b'.1) in
    let motor : k.motor_axes ≡ k'.motor_axes = same-digit _ _ (sym b.2 ∙ here 4 ∙ b'.2) in
    let coupled : k.coupled_axes ≡ k'.coupled_axes = same-digit _ _ (sym b.3 ∙ here 6 ∙ b'.3) in
    same-masks k k' locked limit motor coupled
  where
    same-masks : (k k' : Masks) → k.locked_axes ≡ k'.locked_axes → k.limit_axes ≡ k'.limit_axes → k.motor_axes ≡ k'.motor_axes → k.coupled_axes ≡ k'.coupled_axes → k ≡ k'
    same-masks k k' a b c d =
        let e : masks k.locked_axes k.limit_axes k.motor_axes k.coupled_axes ≡ masks k'.locked_axes k'.limit_axes k'.motor_axes k'.coupled_axes = cc in
        e

-- no byte before the last is LF

both : (P : ℕ → Type 0) (a b : List ℕ) → All P a → All P b → All P (a ++ b)
both P [] b h g = g
both P (x ∷ a) b h g = (h.0, both P a b h.1 g)

axis-above : (i : ℕ) → LF < axis_digit i
axis-above i = go (eqb i 0) (eqb i 1)
  where
    go : (a b : Bool) → LF < cond a 0x30 (cond b 0x31 0x32)
    go true b = omega arith
    go false true = omega arith
    go false false = omega arith

above : (id : WritebackId) → All (λ b. LF < b) (spaced_id id)
unfolding spaced_id
above (Dof i) = omega (arith, axis-above i)
above (Limit i) = omega (arith, axis-above i)
above (Motor i) = omega (arith, axis-above i)

all_above : (ids : List WritebackId) → All (λ b. LF < b) (ids_text ids)
unfolding flat_map
all_above [] = tt
all_above (i ∷ is) = both (λ b. LF < b) (spaced_id i) (ids_text is) (above i) (all_above is)

head-above : (k : Masks) (count : ℕ) → All (λ b. LF < b) (head_text k count)
unfolding head_text
head-above k count = omega arith

pub one_line : (k : Masks) → (text : List ℕ) × (line_text k ≡ text ++ (LF ∷ [])) × All (λ b. LF < b) text
unfolding line_text
one_line k =
    let ids = row_ids 2 1 k in
    (head_text k (length ids) ++ ids_text ids, refl, both (λ b. LF < b) (head_text k (length ids)) (ids_text ids) (head-above k (length ids)) (all_above ids))
