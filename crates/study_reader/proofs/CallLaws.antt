-- The arguments of a call, as the program reads them, are those of its line: word by word, with a fault where one is wrong.
use mathlib.Core.Path.{◌≡◌, refl, sym, ap, ◌∙◌}
use mathlib.Core.Bool.{Bool, true, false, cond}
use mathlib.Core.List.{List}
use Prim.Native.Nat.{ℕ, zero, suc, ◌-◌, ◌≤◌, ◌<◌}
use native.Mathlib.Omega.{arith}
use borrow.Author.Tests.{eq-eqb, ne_eqb}
use lib.Dec.{eqb}
use lib.Ieee.{Float}
use Rattle.floats.specs.SinCos.{rotation_from_angle_of}
use Rattle.floats.specs.declared.rotation_ops.Rotation.{Rotation}
use Rattle.std.specs.Prelude.{Result, Ok, Err}
use Rattle.decimals.specs.declared.number.NumberFault.{NumberFault}
use Rattle.decimals.specs.declared.number.NumberFault.TheVariants.{TooManyDigits, NotANumber}
use Rattle.texts.specs.Ascii.{ascii}
use Rattle.study_reader.specs.Words.{next_word, is_empty, is_word}
use Rattle.study_reader.specs.Numbers.{number_in, number_fault, value_of}
use Rattle.study_reader.specs.Keywords.{call_keyword}
use Rattle.study_reader.specs.Calls.{bare_call, wrong, with_word, with_number, with_pose, with_rotation, with_warm, first, second, of_number, of_whole, of_named, rotation_of, read_rotation, pose_of, read_substep, build_of, read_sweeps, frame_of, mask_step, mask_steps, read_most, settle_of, arguments, read_call}
use Rattle.study_reader.specs.declared.words.Word.{Word}
use Rattle.std.specs.Prelude.{Option, Some, None}
use Rattle.std.proofs.lemmas.Option.{none-some}
use Rattle.study_reader.specs.declared.faults.Fault.{Fault}
use Rattle.study_reader.specs.declared.calls.Line.{Line}

-- what is said of the words that were read is said of the line's next words
pub at_first : (text : List ℕ) (l : Line) (f : Word → Line) (v : Word) → v ≡ next_word text l.at → f v ≡ f (first text l)
at_first text l f v e = ap f e

pub at_second : (text : List ℕ) (l : Line) (f : Word → Word → Line) (v w : Word) → v ≡ next_word text l.at → w ≡ next_word text v.end → f v w ≡ f (first text l) (second text l)
at_second text l f v w e d = ap (f v) d ∙ ap (λ (u : Word). f u (next_word text u.end)) e

-- a test decides
module _ (t : Bool) (a b : Line) where
  pub true-is : t ≡ true → a ≡ cond t a b
  true-is e = sym (ap (λ (x : Bool). cond x a b) e)

  pub false-is : t ≡ false → b ≡ cond t a b
  false-is e = sym (ap (λ (x : Bool). cond x a b) e)

-- ---- one argument

module _ (l : Line) (w : Word) (next : Float → Line) where
  value-is : (r : Result Float NumberFault) → number_fault r ≡ None → next (value_of r) ≡ of_number l w r next
  unfolding number_fault value_of of_number
  value-is (Ok x) e = refl
  value-is (Err TooManyDigits) e = absurd (none-some _ (sym e))
  value-is (Err NotANumber) e = absurd (none-some _ (sym e))

  -- what is said of a word that is no number
  abbrev after : Option Fault → Line
  after (Some f) = wrong l f w.start
  after None = l

  fault-is : (r : Result Float NumberFault) (f : Fault) → number_fault r ≡ Some f → wrong l f w.start ≡ of_number l w r next
  unfolding number_fault of_number
  fault-is (Ok x) f e = absurd (none-some _ e)
  fault-is (Err TooManyDigits) f e = sym (ap after e)
  fault-is (Err NotANumber) f e = sym (ap after e)

  module _ (text : List ℕ) (r : Result Float NumberFault) (fault : Option Fault) where
    pub number_is : r ≡ number_in text w → fault ≡ number_fault r → fault ≡ None → (x : Float) → x ≡ value_of r → next x ≡ of_number l w (number_in text w) next
    number_is p q z x e = ap next e ∙ value-is r (sym q ∙ z) ∙ ap (λ (y : Result Float NumberFault). of_number l w y next) p

    pub number-not : r ≡ number_in text w → fault ≡ number_fault r → (f : Fault) → fault ≡ Some f → wrong l f w.start ≡ of_number l w (number_in text w) next
    number-not p q f z = fault-is r f (sym q ∙ z) ∙ ap (λ (y : Result Float NumberFault). of_number l w y next) p

pub whole_is : (l : Line) (w : Word) (n : ℕ) (v : Option ℕ) → v ≡ Some n → with_number (with_word l w) n ≡ of_whole l w v
unfolding of_whole
whole_is l w n v e = sym (ap (of_whole l w) e)

pub whole-not : (l : Line) (w : Word) (v : Option ℕ) → v ≡ None → of_whole l w None ≡ of_whole l w v
whole-not l w v e = sym (ap (of_whole l w) e)

module _ (l : Line) (w : Word) (fault : Fault) (o : Option ℕ) where
  pub name-not : o ≡ None → wrong l fault w.start ≡ of_named l w fault o
  unfolding of_named
  name-not e = sym (ap (of_named l w fault) e)

  pub name-is : (i : ℕ) → o ≡ Some i → with_number (with_word l w) i ≡ of_named l w fault o
  unfolding of_named
  name-is i e = sym (ap (of_named l w fault) e)

-- ---- a rotation

module _ (text : List ℕ) (l : Line) (v w : Word) (a : Result Float NumberFault) (fault : Option Fault) (p : a ≡ number_in text v) (q : fault ≡ number_fault a) where
  pub angle-not : (f : Fault) → fault ≡ Some f → wrong l f v.start ≡ rotation_of text l v w
  unfolding rotation_of
  angle-not f z = number-not l v _ text a fault p q f z

  pub angle-is : fault ≡ None → is_empty w ≡ true → (x : Float) → x ≡ value_of a → (r : Rotation) → r ≡ rotation_from_angle_of x
      → with_rotation l r.re r.im v.end ≡ rotation_of text l v w
  unfolding rotation_of
  angle-is z e x d r c =
      ap (λ (y : Rotation). with_rotation l y.re y.im v.end) c ∙ true-is _ _ _ e ∙ number_is l v _ text a fault p q z x d

  module _ (b : Result Float NumberFault) (fault2 : Option Fault) (p2 : b ≡ number_in text w) (q2 : fault2 ≡ number_fault b) where
    pub sine-not : fault ≡ None → is_empty w ≡ false → (f : Fault) → fault2 ≡ Some f → wrong l f w.start ≡ rotation_of text l v w
    unfolding rotation_of
    sine-not z e f z2 = number-not l w _ text b fault2 p2 q2 f z2 ∙ false-is _ _ _ e ∙ number_is l v _ text a fault p q z (value_of a) refl

    pub sine-is : fault ≡ None → is_empty w ≡ false → fault2 ≡ None → (x y : Float) → x ≡ value_of a → y ≡ value_of b → with_rotation l x y w.end ≡ rotation_of text l v w
    unfolding rotation_of
    sine-is z e z2 x y d d2 = number_is l w _ text b fault2 p2 q2 z2 y d2 ∙ false-is _ _ _ e ∙ number_is l v _ text a fault p q z x d

-- ---- a pose

module _ (text : List ℕ) (l : Line) (v w : Word) (a : Result Float NumberFault) (fault : Option Fault) (p : a ≡ number_in text v) (q : fault ≡ number_fault a) where
  pub x-not : (f : Fault) → fault ≡ Some f → wrong l f v.start ≡ pose_of text l v w
  unfolding pose_of
  x-not f z = number-not l v _ text a fault p q f z

  module _ (b : Result Float NumberFault) (fault2 : Option Fault) (p2 : b ≡ number_in text w) (q2 : fault2 ≡ number_fault b) where
    pub y-not : fault ≡ None → (f : Fault) → fault2 ≡ Some f → wrong l f w.start ≡ pose_of text l v w
    unfolding pose_of
    y-not z f z2 = number-not l w _ text b fault2 p2 q2 f z2 ∙ number_is l v _ text a fault p q z (value_of a) refl

    pub pose-is : fault ≡ None → fault2 ≡ None → (x y : Float) → x ≡ value_of a → y ≡ value_of b → read_rotation text (with_pose l x y w.end) ≡ pose_of text l v w
    unfolding pose_of
    pose-is z z2 x y d d2 = number_is l w _ text b fault2 p2 q2 z2 y d2 ∙ number_is l v _ text a fault p q z x d

-- ---- `warm`

module _ (text : List ℕ) (l : Line) (v w : Word) (a : Result Float NumberFault) (fault : Option Fault) (p : a ≡ number_in text w) (q : fault ≡ number_fault a) where
  pub warm-not : is_word text v (ascii "warm") ≡ true → (f : Fault) → fault ≡ Some f → wrong l f w.start ≡ build_of text l v w
  unfolding build_of
  warm-not e f z = number-not l w _ text a fault p q f z ∙ true-is _ _ _ e

  pub warm-is : is_word text v (ascii "warm") ≡ true → fault ≡ None → (x : Float) → x ≡ value_of a → read_substep text (with_warm l x w.end) ≡ build_of text l v w
  unfolding build_of
  warm-is e z x d = number_is l w _ text a fault p q z x d ∙ true-is _ _ _ e

-- ---- `warm` of a frame

module _ (text : List ℕ) (l : Line) (v w : Word) (a : Result Float NumberFault) (fault : Option Fault) (p : a ≡ number_in text w) (q : fault ≡ number_fault a) where
  pub frame-warm-not : is_word text v (ascii "warm") ≡ true → (f : Fault) → fault ≡ Some f → wrong l f w.start ≡ frame_of text l v w
  unfolding frame_of
  frame-warm-not e f z = number-not l w _ text a fault p q f z ∙ true-is _ _ _ e

  pub frame-warm-is : is_word text v (ascii "warm") ≡ true → fault ≡ None → (x : Float) → x ≡ value_of a → read_sweeps text (with_warm l x w.end) ≡ frame_of text l v w
  unfolding frame_of
  frame-warm-is e z x d = number_is l w _ text a fault p q z x d ∙ true-is _ _ _ e

-- ---- `settle`

module _ (text : List ℕ) (l : Line) (v : Word) (a : Result Float NumberFault) (fault : Option Fault) (p : a ≡ number_in text v) (q : fault ≡ number_fault a) where
  pub tolerance-not : (f : Fault) → fault ≡ Some f → wrong l f v.start ≡ settle_of text l v
  unfolding settle_of
  tolerance-not f z = number-not l v _ text a fault p q f z

  pub tolerance-is : fault ≡ None → (x : Float) → x ≡ value_of a → read_most text (with_pose l x l.y v.end) ≡ settle_of text l v
  unfolding settle_of
  tolerance-is z x d = number_is l v _ text a fault p q z x d

-- ---- masks: one turn

pub masks-step : (text : List ℕ) (n : ℕ) (l : Line) → 0 < n → mask_steps text n l ≡ mask_steps text (n - 1) (mask_step text l)
unfolding mask_steps
masks-step text zero l h = absurd (omega arith)
masks-step text (suc n) l h = let e : suc n - 1 ≡ n = omega arith in rw e

pub masks-done : (text : List ℕ) (n : ℕ) (l : Line) → n ≤ 0 → mask_steps text n l ≡ l
unfolding mask_steps
masks-done text zero l h = refl
masks-done text (suc n) l h = absurd (omega arith)

-- ---- a call

pub call-is : (text names : List ℕ) (bodies joints : ℕ) (repeats : Bool) (w : Word) (keyword : ℕ) (l : Line) → keyword ≡ call_keyword text w → l ≡ bare_call keyword w.end
    → arguments text names bodies joints repeats l w.start ≡ read_call text names bodies joints repeats w
call-is text names bodies joints repeats w keyword l p q =
    ap (λ (x : Line). arguments text names bodies joints repeats x w.start) (q ∙ ap (λ (k : ℕ). bare_call k w.end) p)

module _ (keyword at k : ℕ) (l : Line) (q : l ≡ bare_call keyword at) where
  pub keyword-is : keyword ≡ k → eqb l.keyword k ≡ true
  keyword-is e = eq-eqb l.keyword k (ap (λ (x : Line). x.keyword) q ∙ e)

  pub keyword-not : (keyword ≡ k → ⊥) → eqb l.keyword k ≡ false
  keyword-not e = ne_eqb l.keyword k (λ d. e (sym (ap (λ (x : Line). x.keyword) q) ∙ d))
