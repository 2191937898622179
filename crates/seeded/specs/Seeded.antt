-- Document 02, R-11: the model that a seed draws. Draws are taken by number, and lists are given by place, so that each word and each number of the model is one line.
use Rattle.std.specs.Prelude.{ℕ, zero, suc, ◌+◌, ◌-◌, ◌*◌, ◌/◌, ◌%◌, false, cond, ◌||◌, List, [], ◌∷◌, ◌==◌, nat_lt, Float}
use Rattle.floats.specs.Operators.{bits}
use Rattle.floats.specs.Constants.{one}
use Rattle.multibody.specs.Model.{Model}
use Rattle.model.specs.Layout.{body_width, words_width, numbers_width}
use Rattle.model.specs.Store.{world}
use Rattle.model.specs.Model.{model_of}
use Rattle.multibody.specs.declared.header.Header.{Header}
use Rattle.seeded.specs.Draws.{draw, number_of}

-- entries i to i + n − 1
unfoldable pub tabulate : {A : Type 0} → ℕ → ℕ → (ℕ → A) → List A
tabulate i zero f = []
tabulate i (suc n) f = f i ∷ tabulate (i + 1) n f

module _ (seed : ℕ) where
  -- bodies n = 1 + draw mod 8, then joints draw mod 9
  unfoldable pub bodies_of : ℕ
  bodies_of = 1 + draw seed 0 % 8

  unfoldable pub joints_of : ℕ
  joints_of = draw seed 1 % 9

  -- per joint four masks, each draw mod 8, first body draw mod n, second draw mod (n + 1), where n or the first body means the world
  unfoldable pub mask_of : ℕ → ℕ → ℕ
  mask_of j c = draw seed (2 + 6 * j + c) % 8

  unfoldable pub first_of : ℕ → ℕ
  first_of j = draw seed (2 + 6 * j + 4) % bodies_of

  unfoldable pub second_of : ℕ → ℕ
  second_of j =
      let b = draw seed (2 + 6 * j + 5) % (bodies_of + 1) in
      cond (b == bodies_of || b == first_of j) world b

  -- The further numbers follow: two settings, eight numbers a body, 38 a joint. Number k of them is
  unfoldable pub further : ℕ → Float
  further k = number_of (draw seed (2 + 6 * joints_of + k))

  -- a body's numbers in the order of `SolverPose` and `SolverVel`: its rotation is identity, undrawn; then x, y, inverse inertia, inverse masses, velocities
  unfoldable pub body_number : ℕ → ℕ → Float
  body_number i c = cond (c == 0) one (cond (c == 1) (bits 0) (further (2 + 8 * i + (c - 2))))

  -- A joint's numbers in the order of `GenericJoint`, then Dof impulses and centre: frames, whose rotations are identity, undrawn; from number 8 on all are drawn, limits (min, max, impulse),
  -- motors in the order of `JointMotor`'s declaration, softness, Dof impulses, cosine and sine
  unfoldable pub joint_number : ℕ → ℕ → Float
  joint_number j c =
      cond (c == 0 || c == 4) one (cond (c == 1 || c == 5) (bits 0) (further (2 + 8 * bodies_of + 38 * j + cond (nat_lt c 4) (c - 2) (c - 4))))

  -- its words: bodies, masks; motors are acceleration based, it is enabled, its centre is given by cosine and sine; no first row is stored before a load
  unfoldable pub joint_word : ℕ → ℕ → ℕ
  joint_word j c = cond (c == 0) (first_of j) (cond (c == 1) (second_of j) (cond (nat_lt c 6) (mask_of j (c - 2)) 0))

  -- dt = 1/64, undrawn
  abbrev pub header_of : Header
  header_of = record {
    params = record { dt = bits 0x3C800000; length_unit = further 0; normalized_max_corrective_velocity = further 1 };
    built = false;
  }

  -- place p of each slice
  abbrev pub body_place : ℕ → Float
  body_place p = body_number (p / body_width) (p % body_width)

  abbrev pub word_place : ℕ → ℕ
  word_place p = joint_word (p / words_width) (p % words_width)

  abbrev pub number_place : ℕ → Float
  number_place p = joint_number (p / numbers_width) (p % numbers_width)

  abbrev pub seeded_model : Model
  seeded_model =
      model_of header_of (tabulate 0 (bodies_of * body_width) body_place) (tabulate 0 (joints_of * words_width) word_place) (tabulate 0 (joints_of * numbers_width) number_place)
