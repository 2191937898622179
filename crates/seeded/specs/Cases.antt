-- For four seeds what is drawn first, as one table: the first six draws; the numbers of bodies and joints; joint 0's masks and bodies; the settings; what the rows read of body 0; and joint 0's first
-- motor, whose fields are named here. The theorem is that every case of the table holds (proofs/Cases.antt).
use Rattle.std.specs.Prelude.{◌≡◌, ℕ, List, [], ◌∷◌, map}
use Rattle.floats.specs.Operators.{bits}
use Rattle.floats.specs.Constants.{one}
use Rattle.rows.specs.declared.integration_parameters.IntegrationParameters.{IntegrationParameters}
use Rattle.rows.specs.declared.motor_model.MotorModel.TheVariants.{AccelerationBased}
use Rattle.rows.specs.declared.generic_joint.Masks.{Masks}
use Rattle.rows.specs.declared.generic_joint.JointMotor.{JointMotor}
use Rattle.rows.specs.declared.joint_constraint_builder.SolverPose.{SolverPose}
use Rattle.model.specs.Layout.{numbers_width, words_width, motors_place, models_place}
use Rattle.model.specs.Records.{num, word}
use Rattle.model.specs.Store.{world, solver_pose_at, masks_at, motor_of, body1_at, body2_at}
use Rattle.seeded.specs.Draws.{draw}
use Rattle.seeded.specs.Seeded.{bodies_of, joints_of, seeded_model}

pub record Case : Type 0 where
  pub seed : ℕ
  pub draws : List ℕ
  pub bodies : ℕ
  pub joints : ℕ
  pub masks : Masks
  pub body1 : ℕ
  pub body2 : ℕ
  pub params : IntegrationParameters
  pub body : SolverPose
  pub motor : JointMotor

abbrev case : ℕ → List ℕ → ℕ → ℕ → Masks → ℕ → ℕ → IntegrationParameters → SolverPose → JointMotor → Case
case seed draws bodies joints masks body1 body2 params body motor =
    record { seed = seed; draws = draws; bodies = bodies; joints = joints; masks = masks; body1 = body1; body2 = body2; params = params; body = body; motor = motor }

abbrev masks : ℕ → ℕ → ℕ → ℕ → Masks
masks locked limit motor coupled = record { locked_axes = locked; limit_axes = limit; motor_axes = motor; coupled_axes = coupled }

-- all numbers as bit patterns
abbrev settings : ℕ → ℕ → IntegrationParameters
settings unit most = record { dt = bits 0x3C800000; length_unit = bits unit; normalized_max_corrective_velocity = bits most }

abbrev body : ℕ → ℕ → ℕ → ℕ → ℕ → SolverPose
body x y ii imx imy = record {
  pose = record { rotation = record { re = one; im = bits 0 }; translation = record { x = bits x; y = bits y } };
  ii = bits ii;
  im = record { x = bits imx; y = bits imy };
}

abbrev motor : ℕ → ℕ → ℕ → ℕ → ℕ → ℕ → JointMotor
motor vel pos stiffness damping force impulse = record {
  target_vel = bits vel;
  target_pos = bits pos;
  stiffness = bits stiffness;
  damping = bits damping;
  max_force = bits force;
  impulse = bits impulse;
  model = AccelerationBased;
}

abbrev pub Holds : Case → Type 0
Holds c =
    let m = seeded_model c.seed in
    (map (draw c.seed) (0 ∷ 1 ∷ 2 ∷ 3 ∷ 4 ∷ 5 ∷ []) ≡ c.draws)
    × (bodies_of c.seed ≡ c.bodies)
    × (joints_of c.seed ≡ c.joints)
    × (masks_at m.words 0 ≡ c.masks)
    × (body1_at m.words 0 ≡ c.body1)
    × (body2_at m.words 0 ≡ c.body2)
    × (m.params ≡ c.params)
    × (solver_pose_at m.bodies 0 ≡ c.body)
    × (motor_of (num numbers_width m.numbers 0) motors_place (word words_width m.words 0 models_place) ≡ c.motor)

-- the seeds 0, 1, 2 and 2^32 − 1
abbrev pub seed0 : Case
seed0 =
    case 0 (0x8514AE57 ∷ 0x0B2B5C2F ∷ 0x894BEBE7 ∷ 0x1656B8DF ∷ 0x9DB21537 ∷ 0x1395D74F ∷ []) 8 7 (masks 7 7 7 7) 7 6 (settings 0xC1830000 0xC2A6C000)
    (body 0xC2540000 0x41460000 0x42038000 0x42900000 0xC2D90000) (motor 0xC2E18000 0x42058000 0x42A28000 0x418F0000 0x42F58000 0x412C0000)

abbrev pub seed1 : Case
seed1 =
    case 1 (0x8514AFD4 ∷ 0x0B2B5CAE ∷ 0x894BE860 ∷ 0x1656B85E ∷ 0x9DB214B4 ∷ 0x1395D7CE ∷ []) 5 8 (masks 0 6 4 6) 4 world (settings 0xC26F8000 0xC1380000)
    (body 0xC0C00000 0x42508000 0x415A0000 0xC1760000 0xC2398000) (motor 0xC28A0000 0xC2EF4000 0xC2E68000 0xC2870000 0xC2938000 0xC19A0000)

abbrev pub seed2 : Case
seed2 =
    case 2 (0x8514AF55 ∷ 0x0B2B5F29 ∷ 0x894BE8E1 ∷ 0x1656B9DD ∷ 0x9DB21435 ∷ 0x1395D041 ∷ []) 6 4 (masks 1 5 5 1) 3 world (settings 0xC16A0000 0x41B50000)
    (body 0x42F98000 0xC17A0000 0xC2788000 0xC2228000 0x42D38000) (motor 0x42F0C000 0xC1CB0000 0x42E30000 0x414C0000 0x40180000 0x42934000)

abbrev pub last : Case
last =
    case 4294967295 (0x8514AED6 ∷ 0x0B2B5DAC ∷ 0x894BEB66 ∷ 0x1656BB58 ∷ 0x9DB215B6 ∷ 0x1395D6CC ∷ []) 7 1 (masks 6 0 6 4) 6 0 (settings 0x42248000 0xC27A8000)
    (body 0x42340000 0x42A30000 0x42900000 0xC2BCC000 0xC2E44000) (motor 0x419B0000 0xC2998000 0xC2450000 0x42868000 0xC2A2C000 0xC2DCC000)

abbrev pub cases : List Case
cases = seed0 ∷ seed1 ∷ seed2 ∷ last ∷ []

infixr 4 ◌and◌
-- each case of a list holds
pub data Every : List Case → Type 0 where
  none : Every []
  ◌and◌ : {c : Case} {cs : List Case} → Holds c → Every cs → Every (c ∷ cs)
