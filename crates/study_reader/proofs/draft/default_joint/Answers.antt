use native.Mathlib.Nat.{add-zero}
use native.Mathlib.Omega.{arith}
use Rattle.study_reader.specs.Storage.{joint_base}
use Rattle.study_reader.specs.Draft.{puts}
use Rattle.study_reader.proofs.ReadLaws.{joint-base-small}
use Rattle.study_reader.proofs.draft.default_joint.Goals as goal

pub default_limits-requires : goal.default_limits-requires
default_limits-requires c = omega (arith, c.joint_base-o.ensures, joint-base-small c.args.j)

pub default_forces-requires : goal.default_forces-requires
default_forces-requires c =
    let jb = c.before.before.before.before.before in
    let entry = jb in
    omega (arith, jb.joint_base-o.ensures, joint-base-small entry.args.j)

pub overflow_add-o : goal.overflow_add-o
overflow_add-o c =
    let jb = c.before.before.before.before.before.before.before.before.before.before.before.before.before in
    let entry = jb in
    omega (arith, jb.joint_base-o.ensures, joint-base-small entry.args.j)

pub overflow_add-o-2 : goal.overflow_add-o-2
overflow_add-o-2 c =
    let jb = c.before.before.before.before.before.before.before.before.before.before.before.before.before.before.before.before.before in
    let entry = jb in
    omega (arith, jb.joint_base-o.ensures, joint-base-small entry.args.j)

pub overflow_add-o-3 : goal.overflow_add-o-3
overflow_add-o-3 c =
    let jb = c.before.before.before.before.before.before.before.before.before.before.before.before.before.before.before.before.before.before.before.before.before in
    let entry = jb in
    omega (arith, jb.joint_base-o.ensures, joint-base-small entry.args.j)

pub overflow_add-o-4 : goal.overflow_add-o-4
overflow_add-o-4 c =
    let jb = c.before.before.before.before.before.before.before.before.before.before.before.before.before.before.before.before.before.before.before.before.before.before.before.before.before in
    let entry = jb in
    omega (arith, jb.joint_base-o.ensures, joint-base-small entry.args.j)

pub returns : goal.returns
unfolding puts
returns c =
    let set5 = c.before.before in
    let set4 = set5.before.before.before.before in
    let set3 = set4.before.before.before.before in
    let set2 = set3.before.before.before.before in
    let at_set = set2.before.before.before.before in
    let df = at_set.before.before.before.before in
    let dl = df.before.before.before.before in
    let jb = dl.before.before in
    let entry = jb in
    rw (set5.set-5.ensures, set4.set-4.ensures, set3.set-3.ensures, set2.set-2.ensures, at_set.set.ensures, df.default_forces.ensures, dl.default_limits.ensures, jb.joint_base-o.ensures, add-zero (joint_base entry.args.j))
