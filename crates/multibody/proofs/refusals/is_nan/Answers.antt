-- `is_nan` meets its contract: a NaN alone differs from itself.
use mathlib.Core.Path.{◌≡◌, sym, subst}
use mathlib.Core.Bool.{true}
use lib.Dec.{T}
use lib.Ieee.{Float, nan, inf, fin, ne, is_nan}
use lib.Ieee.Compare.{differs_from_itself, nan_differs}
use Rattle.multibody.proofs.Tests.{by_cases}
use Rattle.multibody.proofs.refusals.is_nan.Goals as goal

only_nan : (x : Float) → ne x x ≡ true → x ≡ nan
only_nan x t = differs_from_itself x (subst T (sym t) tt)

self-test : (x : Float) → ne x x ≡ is_nan x
unfolding is_nan
self-test nan = nan_differs
self-test (inf s) = by_cases (ne (inf s) (inf s)) (λ t. let e = only_nan (inf s) t in cc) (λ t. t)
self-test (fin s m e) = by_cases (ne (fin s m e) (fin s m e)) (λ t. let e = only_nan (fin s m e) t in cc) (λ t. t)

pub returns : goal.returns
returns c = self-test c.args.x
