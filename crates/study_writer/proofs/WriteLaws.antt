-- What `write_study` answers and leaves.
use mathlib.Core.Path.{◌≡◌, refl, sym, ap, ◌∙◌}
use mathlib.Core.Bool.{Bool, true, false, cond}
use mathlib.Core.List.{List, [], ◌++◌}
use Prim.Native.Nat.{ℕ, ◌+◌, ◌*◌, ◌/◌, ◌≤◌, ◌<◌, min}
use native.Mathlib.Omega.{arith}
use Rattle.std.proofs.Math.Nat.{min-le_right, le-min, min-eq_left}
use borrow.Author.Tests.{le-leb, lt-leb, ltb-true, ltb-false}
use lib.Dec.{leb, ltb}
use lib.Ieee.{Float}
use lib.ListN.{length, get_or, drop}
use Rattle.texts.specs.Written.{written}
use Rattle.texts.proofs.PutLaws.{empty-written}
use Rattle.model.specs.Layout.{body_width, words_width, body1_place, body2_place, masks_place, numbers_width}
use Rattle.model.specs.Model.{model_of}
use Rattle.multibody.specs.Model.{Model, most_bodies, most_joints}
use Rattle.multibody.specs.Counts.{body_count, joint_count}
use Rattle.model.specs.Planar.{plane}
use Rattle.multibody.specs.declared.header.Header.{Header}
use Rattle.study_writer.specs.Text.{lines_text, settings_lines, bodies_from, joints_from, study_lines, study_text}
use Rattle.texts.specs.Sink.{Appended}
use Rattle.study_writer.specs.Printed.{printed_text}
use Rattle.study_writer.proofs.Sizes.{Small, study-size}
use Rattle.texts.proofs.SinkLaws.{put-there, end-there}

-- whole records are there
pub bodies-room : (bodies : List Float) (nb : ℕ) → nb ≡ body_count plane bodies → nb * body_width ≤ length bodies
unfolding body_count
bodies-room bodies nb e = omega arith

joint-cases : (t : Bool) (a b : ℕ) → ltb a b ≡ t → (cond t a b ≤ a) × (cond t a b ≤ b)
joint-cases true a b e = (omega arith, omega (arith, ltb-true a b e))
joint-cases false a b e = (omega (arith, ltb-false a b e), omega arith)

pub least : (a b : ℕ) → min a b ≡ cond (ltb a b) a b
least a b = go (ltb a b) refl
  where
    go : (t : Bool) → ltb a b ≡ t → min a b ≡ cond t a b
    go true e = min-eq_left (omega (arith, ltb-true a b e))
    go false e =
        let l : b ≤ min a b = le-min (ltb-false a b e) (omega arith) in omega (arith, l, min-le_right a b)

pub words_room : (words : List ℕ) (numbers : List Float) (nj : ℕ) → nj ≡ joint_count plane words numbers → nj * words_width ≤ length words
unfolding joint_count
words_room words numbers nj e = let h = joint-cases (ltb (length words / words_width) (length numbers / numbers_width)) (length words / words_width) (length numbers / numbers_width) refl in omega (arith, h.0)

pub numbers_room : (words : List ℕ) (numbers : List Float) (nj : ℕ) → nj ≡ joint_count plane words numbers → nj * numbers_width ≤ length numbers
unfolding joint_count
numbers_room words numbers nj e = let h = joint-cases (ltb (length words / words_width) (length numbers / numbers_width)) (length words / words_width) (length numbers / numbers_width) refl in omega (arith, h.1)

module _ (h : Header) (bodies : List Float) (words : List ℕ) (numbers : List Float) where
  abbrev m : Model
  m = model_of h bodies words numbers

  -- too many bodies, or too many joints
  pub no-bodies : (nb : ℕ) → nb ≡ body_count plane bodies → most_bodies < nb → printed_text m ≡ []
  unfolding printed_text
  no-bodies nb e l =
      ap (λ (t : Bool). cond t (cond (leb (joint_count plane words numbers) most_joints) (study_text m) []) []) (lt-leb (body_count plane bodies) most_bodies (omega arith))

  pub no-joints : (nb nj : ℕ) → nb ≡ body_count plane bodies → nb ≤ most_bodies → nj ≡ joint_count plane words numbers → most_joints < nj → printed_text m ≡ []
  unfolding printed_text
  no-joints nb nj e k f l =
      ap (λ (t : Bool). cond t (cond (leb (joint_count plane words numbers) most_joints) (study_text m) []) []) (le-leb (body_count plane bodies) most_bodies (omega arith))
      ∙ ap (λ (t : Bool). cond t (study_text m) []) (lt-leb (joint_count plane words numbers) most_joints (omega arith))

  pub none_left : (out : List ℕ) → printed_text m ≡ [] → (0 ≡ length (printed_text m)) × (out ≡ written out (printed_text m))
  none_left out e = (sym (ap length e), empty-written out (printed_text m) e)

  module _ (nb nj : ℕ) (e : nb ≡ body_count plane bodies) (k : nb ≤ most_bodies) (f : nj ≡ joint_count plane words numbers) (l : nj ≤ most_joints)
      (small : (c : ℕ) → get_or words c 0 < 4294967296) where
    abbrev whole : List ℕ
    whole = lines_text (settings_lines h.params ++ (bodies_from bodies 0 nb ++ joints_from words numbers 0 nj))

    whole_is : whole ≡ study_text m
    unfolding study_text study_lines
    whole_is =
        ap (λ (n : ℕ). lines_text (settings_lines h.params ++ (bodies_from bodies 0 n ++ joints_from words numbers 0 nj))) e
        ∙ ap (λ (n : ℕ). lines_text (settings_lines h.params ++ (bodies_from bodies 0 (body_count plane bodies) ++ joints_from words numbers 0 n))) f

    printed : whole ≡ printed_text m
    unfolding printed_text
    printed =
        whole_is
        ∙ sym (ap (λ (t : Bool). cond t (cond (leb (joint_count plane words numbers) most_joints) (study_text m) []) []) (le-leb (body_count plane bodies) most_bodies (omega arith))
        ∙ ap (λ (t : Bool). cond t (study_text m) []) (le-leb (joint_count plane words numbers) most_joints (omega arith)))

    joint-small : (j : ℕ) → Small m j
    joint-small j =
        record {
          small0 = omega (arith, small (j * words_width + body1_place));
          small1 = omega (arith, small (j * words_width + body2_place));
          small2 = omega (arith, small (j * words_width + masks_place));
          small3 = omega (arith, small (j * words_width + (masks_place + 1)));
          small4 = omega (arith, small (j * words_width + (masks_place + 2)));
          small5 = omega (arith, small (j * words_width + (masks_place + 3)));
        }

    short : length whole < 4294967295
    short = let s = study-size m (omega arith) (omega arith) (λ j _. joint-small j) in omega (arith, s.0, ap length whole_is)

    pub answered : (out out' : List ℕ) (r : ℕ) → Appended out 0 whole out' r → r ≡ length (printed_text m)
    answered out out' r s = s.ends ∙ end-there 0 whole (omega (arith, short)) ∙ omega (arith, ap length printed)

    pub written-there : (out out' : List ℕ) (r : ℕ) → Appended out 0 whole out' r → length (printed_text m) ≤ length out → out' ≡ written out (printed_text m)
    unfolding written
    written-there out out' r s g =
        let p = ap length printed in
        let z : 0 + length whole ≡ length (printed_text m) = omega arith in
        s.holds
        ∙ put-there out 0 whole (omega arith) (omega (arith, short))
        ∙ ap (λ (n : ℕ). whole ++ drop n out) z
        ∙ ap (λ (t : List ℕ). t ++ drop (length (printed_text m)) out) printed
        ∙ sym (ap (λ (t : Bool). cond t (printed_text m ++ drop (length (printed_text m)) out) out) (le-leb (length (printed_text m)) (length out) g))

    pub left_there : (out : List ℕ) → length out < length (printed_text m) → out ≡ written out (printed_text m)
    unfolding written
    left_there out g = sym (ap (λ (t : Bool). cond t (printed_text m ++ drop (length (printed_text m)) out) out) (lt-leb (length (printed_text m)) (length out) g))
