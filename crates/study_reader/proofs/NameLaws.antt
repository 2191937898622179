-- The turns of the search for a name.
use mathlib.Core.Path.{◌≡◌, sym, ap, ◌∙◌}
use mathlib.Core.Bool.{Bool, true, false, cond}
use Prim.Native.Nat.{ℕ, suc, ◌+◌, ◌-◌, ◌≤◌, ◌<◌}
use native.Mathlib.Nat.{sub-zero}
use native.Mathlib.Omega.{arith}
use Rattle.std.specs.Prelude.{Some, None}
use Rattle.study_reader.specs.Names.{first_from}

pub first-all : (test : ℕ → Bool) (n : ℕ) → first_from test 0 (n - 0) ≡ first_from test 0 n
first-all test n = ap (λ (m : ℕ). first_from test 0 m) (sub-zero n)

module _ (test : ℕ → Bool) (k n : ℕ) where
  step : k < n → first_from test k (n - k) ≡ cond (test k) (Some k) (first_from test (k + 1) (n - (k + 1)))
  unfolding first_from
  step h = let e : n - k ≡ suc (n - (k + 1)) = omega arith in ap (λ (m : ℕ). first_from test k m) e

  pub first-here : k < n → test k ≡ true → Some k ≡ first_from test k (n - k)
  first-here h e = sym (step h ∙ ap (λ (t : Bool). cond t (Some k) (first_from test (k + 1) (n - (k + 1)))) e)

  pub first_next : k < n → test k ≡ false → first_from test (k + 1) (n - (k + 1)) ≡ first_from test k (n - k)
  first_next h e = sym (step h ∙ ap (λ (t : Bool). cond t (Some k) (first_from test (k + 1) (n - (k + 1)))) e)

  pub first-none : n ≤ k → None ≡ first_from test k (n - k)
  unfolding first_from
  first-none h = let e : n - k ≡ 0 = omega arith in sym (ap (λ (m : ℕ). first_from test k m) e)
