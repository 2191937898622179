-- Lists of distinct bodies (`with-distinct`, `with-has`, `with-keeps`), sums over them that differ at two bodies (`two`), and bounds on the difference of two sums (`carried`, `chained`,
-- `still`). Assumes nothing.
use mathlib.Core.Path.{◌≡◌, refl, sym, ap, ◌∙◌, subst}
use mathlib.Core.Logic.{◌≢◌}
use mathlib.Core.Bool.{Bool, true, false, not, ◌&&◌, ◌||◌, cond}
use mathlib.Core.List.{List, [], ◌∷◌}
use Prim.Native.Nat.{ℕ, ◌+◌, ◌*◌, ◌≤◌}
use native.Mathlib.Omega.{arith}
use lib.Dec.{T, eqb, eqb→eq, eqb_refl, T_not}
use lib.IntN.{ℤ, nat_abs, ◌+ℤ◌, ◌-ℤ◌}
use lib.Ieee.Fits.{and_l, and_r}
use Rattle.floats.proofs.IntegerParts.{plus, less, sum_is, diff_is, twice-abs-le, abs-above, abs-below}
use Rattle.multibody.specs.SweepSteps.{among, with_body, sum_over}

-- ---- a list's elements

or_l : (a b : Bool) → T a → T (a || b)
or_l true b t = tt
or_l false b t = absurd t

or_r : (a b : Bool) → T b → T (a || b)
or_r true b t = tt
or_r false b t = t

pub here : (b : ℕ) (bs : List ℕ) → T (among b (b ∷ bs))
unfolding among
here b bs = or_l (eqb b b) (among b bs) (eqb_refl b)

pub there : (b c : ℕ) (bs : List ℕ) → T (among b bs) → T (among b (c ∷ bs))
unfolding among
there b c bs h = or_r (eqb b c) (among b bs) h

-- an element of a list is its head, or one of the rest
where-is : {P : Type 0} (b c : ℕ) (bs : List ℕ) → T (among b (c ∷ bs)) → (b ≡ c → P) → (T (among b bs) → P) → P
unfolding among
where-is {P} b c bs = go (eqb b c) (eqb→eq b c)
  where
    go : (e : Bool) → (T e → b ≡ c) → T (e || among b bs) → (b ≡ c → P) → (T (among b bs) → P) → P
    go true f h x y = x (f tt)
    go false f h x y = y h

-- no body twice
unfoldable pub distinct : List ℕ → Bool
distinct [] = true
distinct (c ∷ cs) = not (among c cs) && distinct cs

head-new : (c : ℕ) (cs : List ℕ) → T (distinct (c ∷ cs)) → T (among c cs) → ⊥
unfolding distinct
head-new c cs d h = T_not (among c cs) (and_l (not (among c cs)) (distinct cs) d) h

tail-distinct : (c : ℕ) (cs : List ℕ) → T (distinct (c ∷ cs)) → T (distinct cs)
unfolding distinct
tail-distinct c cs d = and_r (not (among c cs)) (distinct cs) d

-- ---- a body put in

pub with-distinct : (b : ℕ) (bs : List ℕ) → T (distinct bs) → T (distinct (with_body b bs))
unfolding with_body distinct
with-distinct b bs d = go (among b bs) refl
  where
    go : (x : Bool) → among b bs ≡ x → T (distinct (cond x bs (b ∷ bs)))
    go true e = d
    go false e = subst (λ (y : Bool). T (not y && distinct bs)) (sym e) d

pub with-has : (b : ℕ) (bs : List ℕ) → T (among b (with_body b bs))
unfolding with_body
with-has b bs = go (among b bs) refl
  where
    go : (x : Bool) → among b bs ≡ x → T (among b (cond x bs (b ∷ bs)))
    go true e = subst T (sym e) tt
    go false e = here b bs

pub with-keeps : (b c : ℕ) (bs : List ℕ) → T (among c bs) → T (among c (with_body b bs))
unfolding with_body
with-keeps b c bs h = go (among b bs)
  where
    go : (x : Bool) → T (among c (cond x bs (b ∷ bs)))
    go true = h
    go false = there c b bs h

-- ---- sums that differ at one or at two elements

none : (bs : List ℕ) (f g : ℕ → ℤ) → ((b : ℕ) → T (among b bs) → g b ≡ f b) → sum_over bs g ≡ sum_over bs f
unfolding sum_over
none [] f g h = refl
none (b ∷ bs) f g h = ap (λ (x : ℤ). x +ℤ sum_over bs g) (h b (here b bs)) ∙ ap (λ (x : ℤ). f b +ℤ x) (none bs f g (λ c k. h c (there c b bs k)))

-- a - b is c - d, over parts
abbrev pub Balance : ℤ → ℤ → ℤ → ℤ → Type 0
Balance a b c d = plus a + less b + (less c + plus d) ≡ less a + plus b + (plus c + less d)

pub record Level (a b c d : ℤ) : Type 0 where
  pub is : Balance a b c d

one : (bs : List ℕ) (f g : ℕ → ℤ) (b : ℕ) → T (distinct bs) → T (among b bs) → ((c : ℕ) → T (among c bs) → c ≢ b → g c ≡ f c) → Level (sum_over bs g) (sum_over bs f) (g b) (f b)
unfolding sum_over
one [] f g b d m h = absurd (unfold among in m)
one (c ∷ cs) f g b d m h = where-is b c cs m at_head (λ k. in_rest k (one cs f g b (tail-distinct c cs d) k (λ x y. h x (there x c cs y))).is)
  where
    at_head : b ≡ c → Level (g c +ℤ sum_over cs g) (f c +ℤ sum_over cs f) (g b) (f b)
    at_head e =
        let n : sum_over cs g ≡ sum_over cs f = none cs f g (λ x k. h x (there x c cs k) (λ (q : x ≡ b). head-new c cs d (subst (λ (y : ℕ). T (among y cs)) (q ∙ e) k))) in
        subst (λ (x : ℕ). Level (g c +ℤ sum_over cs g) (f c +ℤ sum_over cs f) (g x) (f x)) (sym e)
        (record { is = omega (arith, (sum_is (g c) (sum_over cs g)).is, (sum_is (f c) (sum_over cs f)).is, ap plus n, ap less n) })

    in_rest : T (among b cs) → Balance (sum_over cs g) (sum_over cs f) (g b) (f b) → Level (g c +ℤ sum_over cs g) (f c +ℤ sum_over cs f) (g b) (f b)
    in_rest k l =
        let e : g c ≡ f c = h c (here c cs) (λ (q : c ≡ b). head-new c cs d (subst (λ (y : ℕ). T (among y cs)) (sym q) k)) in
        record { is = omega (arith, l, (sum_is (g c) (sum_over cs g)).is, (sum_is (f c) (sum_over cs f)).is, ap plus e, ap less e) }

pub two : (bs : List ℕ) (f g : ℕ → ℤ) (a b : ℕ) → a ≢ b → T (distinct bs) → T (among a bs) → T (among b bs) → ((c : ℕ) → T (among c bs) → c ≢ a → c ≢ b → g c ≡ f c)
    → Level (sum_over bs g) (sum_over bs f) (g a +ℤ g b) (f a +ℤ f b)
unfolding sum_over
two [] f g a b n d p q h = absurd (unfold among in p)
two (c ∷ cs) f g a b n d p q h = where-is a c cs p a-head (λ ka. where-is b c cs q b-head (λ kb. in_rest ka kb (two cs f g a b n (tail-distinct c cs d) ka kb (λ x y. h x (there x c cs y))).is))
  where
    new : (x : ℕ) → T (among x cs) → x ≡ c → ⊥
    new x k e = head-new c cs d (subst (λ (y : ℕ). T (among y cs)) e k)

    a-head : a ≡ c → Level (g c +ℤ sum_over cs g) (f c +ℤ sum_over cs f) (g a +ℤ g b) (f a +ℤ f b)
    a-head e =
        let kb : T (among b cs) = where-is b c cs q (λ (y : b ≡ c). absurd (n (e ∙ sym y))) (λ y. y) in
        let l = (one cs f g b (tail-distinct c cs d) kb (λ x y z. h x (there x c cs y) (λ (w : x ≡ a). new x y (w ∙ e)) z)).is in
        subst (λ (x : ℕ). Level (g c +ℤ sum_over cs g) (f c +ℤ sum_over cs f) (g x +ℤ g b) (f x +ℤ f b)) (sym e)
        (record { is = omega (arith, l, (sum_is (g c) (sum_over cs g)).is, (sum_is (f c) (sum_over cs f)).is, (sum_is (g c) (g b)).is, (sum_is (f c) (f b)).is) })

    b-head : b ≡ c → Level (g c +ℤ sum_over cs g) (f c +ℤ sum_over cs f) (g a +ℤ g b) (f a +ℤ f b)
    b-head e =
        let ka : T (among a cs) = where-is a c cs p (λ (y : a ≡ c). absurd (n (y ∙ sym e))) (λ y. y) in
        let l = (one cs f g a (tail-distinct c cs d) ka (λ x y z. h x (there x c cs y) z (λ (w : x ≡ b). new x y (w ∙ e)))).is in
        subst (λ (x : ℕ). Level (g c +ℤ sum_over cs g) (f c +ℤ sum_over cs f) (g a +ℤ g x) (f a +ℤ f x)) (sym e)
        (record { is = omega (arith, l, (sum_is (g c) (sum_over cs g)).is, (sum_is (f c) (sum_over cs f)).is, (sum_is (g a) (g c)).is, (sum_is (f a) (f c)).is) })

    in_rest : T (among a cs) → T (among b cs) → Balance (sum_over cs g) (sum_over cs f) (g a +ℤ g b) (f a +ℤ f b) → Level (g c +ℤ sum_over cs g) (f c +ℤ sum_over cs f) (g a +ℤ g b) (f a +ℤ f b)
    in_rest ka kb l =
        let e : g c ≡ f c = h c (here c cs) (λ (w : c ≡ a). new a ka (sym w)) (λ (w : c ≡ b). new b kb (sym w)) in
        record { is = omega (arith, l, (sum_is (g c) (sum_over cs g)).is, (sum_is (f c) (sum_over cs f)).is, ap plus e, ap less e) }

-- ---- bounds on differences

pub carried : (a b c d : ℤ) (r : ℕ) → Level a b c d → 2 * nat_abs (c -ℤ d) ≤ r → 2 * nat_abs (a -ℤ b) ≤ r
carried a b c d r l h =
    let u = abs-above (c -ℤ d) in
    let v = abs-below (c -ℤ d) in
    let e = (diff_is c d).is in
    let k = l.is in
    twice-abs-le (a -ℤ b) (plus a + less b) (less a + plus b) r (diff_is a b) (omega arith) (omega arith)

pub chained : (a b c : ℤ) (r s : ℕ) → 2 * nat_abs (b -ℤ a) ≤ r → 2 * nat_abs (c -ℤ b) ≤ s → 2 * nat_abs (c -ℤ a) ≤ r + s
chained a b c r s h k =
    let u = abs-above (b -ℤ a) in
    let v = abs-below (b -ℤ a) in
    let x = abs-above (c -ℤ b) in
    let y = abs-below (c -ℤ b) in
    let d = (diff_is b a).is in
    let e = (diff_is c b).is in
    twice-abs-le (c -ℤ a) (plus c + less a) (less c + plus a) (r + s) (diff_is c a) (omega arith) (omega arith)

pub still : (a : ℤ) → 2 * nat_abs (a -ℤ a) ≤ 0
still a = twice-abs-le (a -ℤ a) (plus a + less a) (less a + plus a) 0 (diff_is a a) (omega arith) (omega arith)
