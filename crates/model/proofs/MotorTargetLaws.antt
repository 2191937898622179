-- The records of a motor table set in joints' numbers. Each number stays as it was, or is one that may be stored (`table_same`). A later record for the same axis wins (`last-wins`). Two joints with equal contents, unnamed numbers aside, still have them after the same records (`records-named`): a target on an axis whose
-- motor is not named may be set or not.
use Prim.Native.Nat.{ℕ, zero, suc, ◌+◌, ◌*◌, ◌-◌, ◌≤◌, ◌<◌}
use mathlib.Core.Path.{◌≡◌, refl, sym, ap, ◌∙◌, subst}
use mathlib.Core.Logic.{◌≢◌, ◌⊎◌, inl, inr}
use mathlib.Core.Bool.{cond}
use mathlib.Core.List.{List, [], ◌∷◌, ◌++◌}
use native.Mathlib.Omega.{arith}
use borrow.Author.Tests.{eqb-true, eqb-false}
use lib.Dec.{eqb}
use lib.ListN.{length, drop}
use lib.Ieee.{Float}
use Rattle.motor_table.specs.Records.{read_at}
use Rattle.motor_table.specs.Tables.{Table, after, most_records, read_from, read_table, table_answer, table_refusal}
use Rattle.motor_table.specs.Tables.Table.{granted, refused}
use Rattle.motor_table.specs.Targets.{target_of}
use Rattle.motor_table.specs.declared.record.Entry.{Entry}
use Rattle.motor_table.specs.declared.record.RecordRead.{RecordRead}
use Rattle.std.specs.Prelude.{Ok}
use Rattle.motor_table.proofs.GrantedLaws.{AllFit, Granted, granted-fit, present-parts, is-there, granted-after, granted-count, refused-never, next-record, next-answer}
use Rattle.motor_table.proofs.TargetLaws.{target-finite}
use Rattle.rows.specs.GenericJoint.{motor_at}
use Rattle.rows.specs.Named.{SameNamed}
use Rattle.rows.specs.declared.generic_joint.JointMotor.{JointMotor}
use Rattle.rows.specs.declared.joint_velocity_constraint.WritebackId.{WritebackId}
use Rattle.rows.specs.declared.joint_velocity_constraint.WritebackId.TheVariants.{Motor}
use Rattle.model.specs.Layout.{words_width, numbers_width, target_place}
use Rattle.model.specs.Records.{num, word}
use Rattle.model.specs.Store.{put_target, joint_at, joint_of, data_of}
use Rattle.model.specs.MotorTargets.{set_record, set_records, set_table}
use Rattle.multibody.proofs.Tests.{by_cases}
use Rattle.multibody.proofs.Footprints.{SameBut, same_self, same_then}
use Rattle.model.proofs.Keeps.{PlanarStored, put_target-same}
use Rattle.model.proofs.StoreLaws.{length-put_target, num-put_target, num-put_target-kept, num-put_target-other, joint_at-put_target, joint_at-put_target-other}

-- ---- numbers

records-same : (joints : ℕ) (es : List Entry) (s : List Float) → AllFit joints es → SameBut numbers_width PlanarStored s (set_records s es)
unfolding set_records
records-same joints [] s a = same_self s
records-same joints (e ∷ es) s a =
    same_then (put_target-same s e.joint.size e.axis.size (target_of e.thousandths) a.0.axis (target-finite e.thousandths a.0.thousandths))
    (records-same joints es (set_record s e) a.1)

-- a table stores what may be stored, and one that is refused nothing
granted-same : (joints : ℕ) (s : List Float) (t : Table) → (table_refusal t ≡ 0 → Granted joints t) → SameBut numbers_width PlanarStored s (set_table s t)
unfolding set_table table_refusal
granted-same joints s (granted es) g =
    let r = g refl in
    subst (λ t. SameBut numbers_width PlanarStored s (set_table s t)) (sym r.holds) (records-same joints r.records s r.fit)
granted-same joints s (refused k) g = same_self s

pub table_same : (joints : ℕ) (bytes : List ℕ) (s : List Float) → SameBut numbers_width PlanarStored s (set_table s (read_table joints bytes))
table_same joints bytes s = granted-same joints s (read_table joints bytes) (granted-fit joints most_records bytes)

-- ---- a walk over the bytes of a table that is granted

-- one record, and then the rest
record-first : (e : Entry) (s : List Float) (k n : ℕ) (t : Table) → table_answer k t ≡ Ok n → set_table s (after e t) ≡ set_table (set_record s e) t
unfolding set_table set_records
record-first e s k n (granted es) h = ap (set_table s) (granted-after e es)
record-first e s k n (refused r) h = absurd (refused-never k n r h)

-- no record is left
pub no_record : (s : List Float) (k n : ℕ) (t : Table) → table_answer k t ≡ Ok n → n ≤ k → set_table s t ≡ s
unfolding set_table set_records
no_record s k n (granted []) h l = refl
no_record s k n (granted (e ∷ es)) h l = let z : k + suc (length es) ≡ n = granted-count k n (e ∷ es) h in absurd (omega arith)
no_record s k n (refused r) h l = refl

module _ (joints m n i : ℕ) (bytes : List ℕ) (at : ℕ) (whole : table_answer i (read_from joints (m - i) (drop at bytes)) ≡ Ok n) (l : i ≤ m) (h : i < n)
    (r : RecordRead) (q : read_at bytes at ≡ Ok r) where
  pub record-set : (s : List Float) → set_table (set_record s r.entry) (read_from joints (m - (i + 1)) (drop r.next bytes)) ≡ set_table s (read_from joints (m - i) (drop at bytes))
  record-set s =
      sym (record-first r.entry s (i + 1) n (read_from joints (m - (i + 1)) (drop r.next bytes)) (next-answer joints m n i bytes at whole l h r q))
      ∙ sym (ap (set_table s) (next-record joints m n i bytes at whole l h r q))

  pub record-there : (s : List Float) → joints * numbers_width ≤ length s → (r.entry.axis.size < 3) × (r.entry.joint.size * numbers_width + numbers_width ≤ length s)
  record-there s room =
      let p = present-parts joints r.entry (is-there joints m n i bytes at whole l h r q) in
      (p.1, omega (arith, p.0, room))

-- ---- a later record for the same axis wins

-- a record is for another joint or another axis
abbrev Apart : Entry → Entry → Type 0
Apart e r = (e.joint.size ≢ r.joint.size) ⊎ (e.axis.size ≢ r.axis.size)

abbrev pub AllApart : Entry → List Entry → Type 0
AllApart e [] = Unit
AllApart e (r ∷ rs) = Apart e r × AllApart e rs

-- the target velocity of a record's joint and axis
abbrev pub target_in : List Float → Entry → Float
target_in s e = num numbers_width s e.joint.size (target_place e.axis.size)

apart-kept : (s : List Float) (e r : Entry) → e.axis.size < 3 → r.axis.size < 3 → Apart e r → target_in (set_record s r) e ≡ target_in s e
apart-kept s e r h k (inl ne) =
    num-put_target-other s r.joint.size r.axis.size (target_of r.thousandths) e.joint.size (target_place e.axis.size) k ne (omega arith)
apart-kept s e r h k (inr ne) = by_cases (eqb e.joint.size r.joint.size)
    (λ t.
    rw (eqb-true e.joint.size r.joint.size t)
    (num-put_target-kept s r.joint.size r.axis.size (target_of r.thousandths) (target_place e.axis.size) (λ q. ne (omega arith))))
    (λ t.
    num-put_target-other s r.joint.size r.axis.size (target_of r.thousandths) e.joint.size (target_place e.axis.size) k
    (eqb-false e.joint.size r.joint.size t) (omega arith))

all-apart-kept : (joints : ℕ) (e : Entry) (rs : List Entry) (s : List Float) → e.axis.size < 3 → AllFit joints rs → AllApart e rs → target_in (set_records s rs) e ≡ target_in s e
unfolding set_records
all-apart-kept joints e [] s h a p = refl
all-apart-kept joints e (r ∷ rs) s h a p = all-apart-kept joints e rs (set_record s r) h a.1 p.1 ∙ apart-kept s e r h a.0.axis p.0

pub last-wins : (joints : ℕ) (es : List Entry) (e : Entry) (rs : List Entry) (s : List Float) → AllFit joints (es ++ (e ∷ rs)) → AllApart e rs → joints * numbers_width ≤ length s
    → target_in (set_records s (es ++ (e ∷ rs))) e ≡ target_of e.thousandths
unfolding set_records
last-wins joints [] e rs s a p room =
    let f = a.0 in
    all-apart-kept joints e rs (set_record s e) f.axis a.1 p
    ∙ num-put_target s e.joint.size e.axis.size (target_of e.thousandths) f.axis (omega (arith, f.joint, room))
last-wins joints (d ∷ es) e rs s a p room =
    last-wins joints es e rs (set_record s d) a.1 p (rw (length-put_target s d.joint.size d.axis.size (target_of d.thousandths)) room)

-- ---- two joints

-- a motor with another target velocity
aims : JointMotor → Float → JointMotor
aims m v = record {
  target_vel = v;
  target_pos = m.target_pos;
  stiffness = m.stiffness;
  damping = m.damping;
  max_force = m.max_force;
  impulse = m.impulse;
  model = m.model;
}

-- a joint's numbers with v as the target velocity of axis i
abbrev aimed : ℕ → Float → (ℕ → Float) → ℕ → Float
aimed i v f c = cond (eqb c (target_place i)) v (f c)

module _ (named : WritebackId → Type 0) (v : Float) (f f' : ℕ → Float) (g g' : ℕ → ℕ) (s : SameNamed named (joint_of f g) (joint_of f' g')) where
  abbrev Motors : ℕ → ℕ → Type 0
  Motors i k = named (Motor k) → motor_at (data_of (aimed i v f) g) k ≡ motor_at (data_of (aimed i v f') g') k

  first-motors : (k : ℕ) → Motors 0 k
  unfolding aims
  first-motors zero n = ap (λ m. aims m v) (s.motor 0 n)
  first-motors (suc zero) n = s.motor 1 n
  first-motors (suc (suc zero)) n = s.motor 2 n
  first-motors (suc (suc (suc k))) n = refl

  second-motors : (k : ℕ) → Motors 1 k
  unfolding aims
  second-motors zero n = s.motor 0 n
  second-motors (suc zero) n = ap (λ m. aims m v) (s.motor 1 n)
  second-motors (suc (suc zero)) n = s.motor 2 n
  second-motors (suc (suc (suc k))) n = refl

  third-motors : (k : ℕ) → Motors 2 k
  unfolding aims
  third-motors zero n = s.motor 0 n
  third-motors (suc zero) n = s.motor 1 n
  third-motors (suc (suc zero)) n = ap (λ m. aims m v) (s.motor 2 n)
  third-motors (suc (suc (suc k))) n = refl

  aimed-named : (i : ℕ) → i < 3 → SameNamed named (joint_of (aimed i v f) g) (joint_of (aimed i v f') g')
  aimed-named zero h = record {
    frame1 = s.frame1;
    frame2 = s.frame2;
    masks = s.masks;
    softness = s.softness;
    enabled = s.enabled;
    motor = first-motors;
    limits = s.limits;
    center = s.center;
    dof = s.dof;
  }
  aimed-named (suc zero) h = record {
    frame1 = s.frame1;
    frame2 = s.frame2;
    masks = s.masks;
    softness = s.softness;
    enabled = s.enabled;
    motor = second-motors;
    limits = s.limits;
    center = s.center;
    dof = s.dof;
  }
  aimed-named (suc (suc zero)) h = record {
    frame1 = s.frame1;
    frame2 = s.frame2;
    masks = s.masks;
    softness = s.softness;
    enabled = s.enabled;
    motor = third-motors;
    limits = s.limits;
    center = s.center;
    dof = s.dof;
  }
  aimed-named (suc (suc (suc i))) h = absurd (omega arith)

module _ (named : WritebackId → Type 0) (words words' : List ℕ) (j : ℕ) where
  abbrev Alike : List Float → List Float → Type 0
  Alike n n' = SameNamed named (joint_at words n j) (joint_at words' n' j)

  abbrev There : List Float → Type 0
  There n = j * numbers_width + numbers_width ≤ length n

  target-own : (n n' : List Float) (i : ℕ) (v : Float) → i < 3 → There n → There n' → Alike n n' → Alike (put_target n j i v) (put_target n' j i v)
  unfolding joint_at
  target-own n n' i v h room room' s =
      rw (joint_at-put_target n j i v words h room, joint_at-put_target n' j i v words' h room')
      (aimed-named named v (num numbers_width n j) (num numbers_width n' j) (word words_width words j) (word words_width words' j) s i h)

  target-named : (n n' : List Float) (j' i : ℕ) (v : Float) → i < 3 → There n → There n' → Alike n n' → Alike (put_target n j' i v) (put_target n' j' i v)
  target-named n n' j' i v h room room' s = by_cases (eqb j j')
      (λ t. rw (← (eqb-true j j' t)) (target-own n n' i v h room room' s))
      (λ t.
      let ne = eqb-false j j' t in
      rw (joint_at-put_target-other n j' i v words j h ne, joint_at-put_target-other n' j' i v words' j h ne) s)

  pub records-named : (joints : ℕ) (es : List Entry) → AllFit joints es → (n n' : List Float) → There n → There n' → Alike n n' → Alike (set_records n es) (set_records n' es)
  unfolding set_records
  records-named joints [] a n n' room room' s = s
  records-named joints (e ∷ es) a n n' room room' s =
      let v = target_of e.thousandths in
      records-named joints es a.1 (set_record n e) (set_record n' e)
      (rw (length-put_target n e.joint.size e.axis.size v) room) (rw (length-put_target n' e.joint.size e.axis.size v) room')
      (target-named n n' e.joint.size e.axis.size v a.0.axis room room' s)
