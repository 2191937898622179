-- Lists by place. A tabulated list has its entries in their places; and a loop that stores f p at place p, from 0 on, leaves the front of the slice tabulated.
use Rattle.std.proofs.Common.{◌≡◌, ℕ, zero, suc, ◌+◌, ◌<◌, ◌≤◌, List, [], ◌∷◌, ◌++◌, length, get_or, drop, set, refl, ap, ◌∙◌, zero-add, add-one, arith}
use Rattle.seeded.specs.Seeded.{tabulate}
use Rattle.seeded.specs.Left.{front}

pub length-tabulate : {A : Type 0} (n i : ℕ) (f : ℕ → A) → length (tabulate i n f) ≡ n
unfolding tabulate
length-tabulate zero i f = refl
length-tabulate (suc n) i f = ap suc (length-tabulate n (i + 1) f)

get_or-from : {A : Type 0} (n i p : ℕ) (f : ℕ → A) (d : A) → p < n → get_or (tabulate i n f) p d ≡ f (i + p)
unfolding tabulate
get_or-from zero i p f d h = absurd (omega arith)
get_or-from (suc n) i zero f d h =
    let z : i + 0 ≡ i = omega arith in
    rw z
get_or-from (suc n) i (suc p) f d h =
    let z : i + 1 + p ≡ i + suc p = omega arith in
    get_or-from n (i + 1) p f d (omega arith) ∙ ap f z

pub get_d_tabulate : {A : Type 0} (n p : ℕ) (f : ℕ → A) (d : A) → p < n → get_or (tabulate 0 n f) p d ≡ f p
get_d_tabulate n p f d h = get_or-from n 0 p f d h ∙ ap f (zero-add p)

-- ---- a loop's start, and its turn

pub front-none : {A : Type 0} (f : ℕ → A) (s : List A) → s ≡ front 0 f s
unfolding tabulate
front-none f s = refl

next-from : {A : Type 0} (p i : ℕ) (f : ℕ → A) (s : List A) → p < length s → set (tabulate i p f ++ drop p s) p (f (i + p)) ≡ tabulate i (suc p) f ++ drop (suc p) s
unfolding tabulate
next-from zero i f [] h = absurd (omega arith)
next-from zero i f (x ∷ s) h =
    let z : i + 0 ≡ i = omega arith in
    rw z
next-from (suc p) i f [] h = absurd (omega arith)
next-from (suc p) i f (x ∷ s) h =
    let z : i + suc p ≡ i + 1 + p = omega arith in
    rw z (ap (λ l. f i ∷ l) (next-from p (i + 1) f s (omega arith)))

pub front-next : {A : Type 0} (f : ℕ → A) (s : List A) {t : List A} {p : ℕ} {v : A} → p < length s → t ≡ front p f s → v ≡ f p → set t p v ≡ front (p + 1) f s
front-next f s {t} {p} {v} h e d =
    let z : f (0 + p) ≡ f p = ap f (zero-add p) in
    let n : set (front p f s) p (f p) ≡ front (suc p) f s = rw z at (next-from p 0 f s h) in
    rw (e, d, add-one) n

-- and its end
pub front-done : {A : Type 0} (f : ℕ → A) (s : List A) {t : List A} {p m : ℕ} → p ≤ m → m ≤ p → t ≡ front p f s → t ≡ front m f s
front-done f s {t} {p} {m} h g e =
    let q : p ≡ m = omega arith in
    e ∙ ap (λ n. front n f s) q
