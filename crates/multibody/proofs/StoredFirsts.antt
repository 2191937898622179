-- The loop that stores each joint's first row (document 02, R-10), a joint a turn. A kind that stores none is left as it was (`firsts-left`).
use Prim.Native.Nat.{ℕ, zero, suc, ◌+◌, ◌-◌, ◌*◌, ◌<◌, ◌≤◌}
use mathlib.Core.Path.{◌≡◌, refl, sym, ap, ◌∙◌}
use mathlib.Core.List.{List}
use native.Mathlib.Nat.{mul-le-mul_right}
use native.Mathlib.Omega.{arith}
use Rattle.multibody.specs.Store.{Store}
use Rattle.multibody.specs.System.{System}
use Rattle.multibody.specs.Model.{most_joints}
use Rattle.multibody.specs.JointRows.{row_count}
use Rattle.multibody.specs.Counts.{rows_before, store_firsts}
use Rattle.multibody.proofs.Laws.{Laws}
use Rattle.multibody.proofs.JointRowsLaws.{less, none}
use Rattle.multibody.proofs.CountLaws.{rows_before-next, rows_before-le}
use Rattle.multibody.proofs.Rewording.{first-rows-kept}

module _ (store : Store) where
  open store use {put_first}

  module _ (j n : ℕ) (w : List ℕ) where
    pub no-first : n ≤ j → store_firsts store j (n - j) w ≡ w
    unfolding store_firsts
    no-first g = rw (none n j g)

    pub next-first : j < n → {first : ℕ} → first ≡ rows_before store w j → store_firsts store j (n - j) w ≡ store_firsts store (j + 1) (n - (j + 1)) (put_first w j first)
    unfolding store_firsts
    next-first g e = rw (less n j g, e)

  pub firsts-left : ((w : List ℕ) (j k : ℕ) → put_first w j k ≡ w) → (n j : ℕ) (w : List ℕ) → store_firsts store j n w ≡ w
  unfolding store_firsts
  firsts-left same zero j w = refl
  firsts-left same (suc n) j w = firsts-left same n (j + 1) (put_first w j (rows_before store w j)) ∙ same w j (rows_before store w j)

module _ {sys : System} (laws : Laws sys) where
  open sys use {store}
  open store use {most_rows, put_first}

  -- where the rows of the next joint begin, after a store
  pub first_next : (w : List ℕ) (j first count : ℕ) → first ≡ rows_before store w j → count ≡ row_count store (put_first w j first) j → first + count ≡ rows_before store (put_first w j first) (j + 1)
  first_next w j first count e c =
      rw c (ap (λ k. k + row_count store (put_first w j first) j) (e ∙ sym (first-rows-kept laws w j first j)) ∙ sym (rows_before-next store (put_first w j first) j))

  pub first_small : (w : List ℕ) (j n first : ℕ) → first ≡ rows_before store w j → j < n → n ≤ most_joints → first ≤ most_joints * most_rows
  first_small w j n first e l few =
      let fewer : j ≤ most_joints = omega (arith, l, few) in
      omega (arith, e, rows_before-le laws w j, mul-le-mul_right most_rows fewer)
