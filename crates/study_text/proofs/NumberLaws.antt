-- Signed numbers as sign and size, a number at the right of its column, and the texts of what has no millionths.
use Prim.Native.Nat.{ℕ, ◌-◌, ◌^◌, ◌≤◌, ◌<◌}
use mathlib.Core.Path.{◌≡◌, refl, ap, ◌∙◌}
use mathlib.Core.Bool.{Bool, true, false, cond}
use mathlib.Core.List.{List, [], ◌∷◌, ◌++◌}
use native.Mathlib.Omega.{arith}
use lib.IntN.{ℤ, pos, negsuc, nat_abs}
use lib.Signed.{mag, lt_z}
use lib.Ieee.{Float, nan, inf, fin}
use lib.ListN.{length, replicate}
use mir.Syntax.{w32}
use mir.Val.{SFits, to_z, of_z}
use mir.ValLaws.{to_z-of_z}
use Rattle.std.proofs.Common.{le-ltb}
use Rattle.floats.specs.Bits.{parts_of}
use Rattle.floats.specs.MicroReport.{micro_report_of}
use Rattle.floats.specs.declared.bits.Parts.{Parts}
use Rattle.floats.specs.declared.bits.Parts.TheVariants as parts
use Rattle.floats.specs.declared.micro_report.MicroReport.{MicroReport}
use Rattle.decimals.specs.Spelled.{spelled_text}
use Rattle.texts.specs.Ascii.{SPACE}
use Rattle.texts.specs.Sink.{largest_place, Appended}
use Rattle.texts.proofs.SinkLaws.{appended_then, appended-text, place-length}
use Rattle.motor_table.specs.Text.{number_text}
use Rattle.motor_table.specs.declared.whole_number.Number.{Number}
use Rattle.motor_table.proofs.TextLaws.{number_short}
use Rattle.study_text.specs.Number.{signed, over_text, report_text, millionths_text, is_over, impulse_text, right_column, number_column}

-- ---- sign and size

pub read : (z : ℤ) → SFits w32 z → to_z w32 (of_z w32 z) ≡ z
read z f = to_z-of_z w32 z f

sized : (z : ℤ) → ◌≡◌ {A = Number} (record { negative = lt_z z (pos 0); size = nat_abs z }) (signed z)
unfolding signed
sized (pos n) = ap (λ (b : Bool). record { negative = b; size = n }) (le-ltb n 0 (omega arith))
sized (negsuc n) = refl

pub sign-size : (z : ℤ) → SFits w32 z → (n : ℕ) → n ≡ nat_abs (to_z w32 (of_z w32 z)) → ◌≡◌ {A = Number} (record { negative = lt_z (to_z w32 (of_z w32 z)) (pos 0); size = n }) (signed z)
sign-size z f n e = rw (e, read z f) (sized z)

-- ---- a whole number's text

signed-size : (z : ℤ) → mag z < 2 ^ 31 → (signed z).size ≤ 2 ^ 31
unfolding signed
signed-size (pos n) h = omega arith
signed-size (negsuc n) h = omega arith

-- at the right of its column, with the length from a first run
module _ (z : ℤ) (f : SFits w32 z) (n : Number) (same : n ≡ signed z) {none none' : List ℕ} {len : ℕ} (first : Appended none 0 (number_text n) none' len) where
  is-short : length (number_text n) < largest_place
  is-short = omega (arith, number_short n, ap (λ (m : Number). m.size) same, signed-size z f.sfits)

  pub right-whole : {out : List ℕ} {at k : ℕ} {m₁ : List ℕ} {a : ℕ} {m₂ : List ℕ} {b : ℕ} {last : List ℕ} {r : ℕ} → k ≡ 15 - len → Appended out at (replicate k SPACE) m₁ a
      → Appended m₁ a (number_text n) m₂ b → Appended m₂ b (SPACE ∷ []) last r → Appended out at (right_column (number_text (signed z))) last r
  unfolding right_column
  right-whole e p q s =
      let l : 15 - len ≡ 15 - length (number_text n) = ap (λ (m : ℕ). 15 - m) (place-length (number_text n) len first.ends is-short) in
      appended-text
      (ap (λ (m : Number). replicate (15 - length (number_text m)) SPACE ++ number_text m ++ SPACE ∷ []) same)
      (appended_then (appended_then (appended-text (ap (λ (m : ℕ). replicate m SPACE) (e ∙ l)) p) q) s)

-- ---- by the report

module _ {out : List ℕ} {at : ℕ} {out' : List ℕ} {r : ℕ} (x : Float) (report : MicroReport) (e : report ≡ micro_report_of x) where
  pub millionths-by : Appended out at (report_text x report) out' r → Appended out at (millionths_text x) out' r
  unfolding millionths_text
  millionths-by s = appended-text (ap (report_text x) e) s

  pub column-by : Appended out at (right_column (cond (is_over report) (spelled_text x) (report_text x report))) out' r → Appended out at (number_column x) out' r
  unfolding number_column impulse_text millionths_text
  column-by s = appended-text (ap (λ (m : MicroReport). right_column (cond (is_over m) (spelled_text x) (report_text x m))) e) s

-- ---- what is Over

-- by the parts of a number
unfoldable pub over-parts : Parts → List ℕ
over-parts (parts.Infinite true) = 0x2d ∷ 0x69 ∷ 0x6e ∷ 0x66 ∷ []
over-parts (parts.Infinite false) = 0x69 ∷ 0x6e ∷ 0x66 ∷ []
over-parts (parts.Finite s d k) = 0x6f ∷ 0x76 ∷ 0x65 ∷ 0x72 ∷ []
over-parts parts.Nan = 0x6f ∷ 0x76 ∷ 0x65 ∷ 0x72 ∷ []

pub over-by-parts : (x : Float) → over-parts (parts_of x) ≡ over_text x
unfolding over-parts parts_of over_text
over-by-parts nan = refl
over-by-parts (inf true) = refl
over-by-parts (inf false) = refl
over-by-parts (fin s m e) = refl
