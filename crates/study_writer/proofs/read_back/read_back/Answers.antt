-- `read_back` meets its contract: what `write_study` left is read, and it is the model.
use mathlib.Core.Path.{◌≡◌, sym, subst}
use mathlib.Core.Bool.{true}
use lib.Dec.{T}
use lib.Ieee.{binary32, fits}
use Rattle.model.specs.Model.{model_of}
use Rattle.study_writer.specs.ReadBack.{AllF32}
use Rattle.study_writer.proofs.ReadBackLaws.{wrote-all, wrote_none}
use Rattle.study_writer.proofs.read_back.read_back.Goals as goal

-- what owning an `f32` tells: the format holds it
pub returns-then-out-n : goal.returns-then-out-n
returns-then-out-n c =
    let m = model_of c.args.header c.args.bodies.now c.args.words.now c.args.numbers.now in
    let g = c.well_formed in
    let dt : fits binary32 c.args.header.params.dt ≡ true = cc in
    let unit : fits binary32 c.args.header.params.length_unit ≡ true = cc in
    let velocity : fits binary32 c.args.header.params.normalized_max_corrective_velocity ≡ true = cc in
    let f : AllF32 m = record { dt = subst T (sym dt) tt; length-unit = subst T (sym unit) tt; max_velocity = subst T (sym velocity) tt; bodies = c.type_inv.bodies; numbers = c.type_inv.numbers } in
    wrote_none m f _ _ _ _ _ c.args.out.now _ _ c.write_study-n.ensures.0 c.write_study-n.ensures.1 c.if-out-n.true c.read_study.ensures

pub returns : goal.returns
returns c =
    let m = model_of c.args.header c.args.bodies.now c.args.words.now c.args.numbers.now in
    let g = c.well_formed in
    let dt : fits binary32 c.args.header.params.dt ≡ true = cc in
    let unit : fits binary32 c.args.header.params.length_unit ≡ true = cc in
    let velocity : fits binary32 c.args.header.params.normalized_max_corrective_velocity ≡ true = cc in
    let f : AllF32 m = record { dt = subst T (sym dt) tt; length-unit = subst T (sym unit) tt; max_velocity = subst T (sym velocity) tt; bodies = c.type_inv.bodies; numbers = c.type_inv.numbers } in
    wrote-all m f _ _ _ _ _ c.args.out.now _ _ c.write_study-n.ensures.0 c.write_study-n.ensures.1 c.if-out-n.false c.read_study-2.ensures
