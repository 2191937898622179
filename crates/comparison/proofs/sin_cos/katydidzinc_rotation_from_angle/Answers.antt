-- `katydidzinc_rotation_from_angle` meets its contract: the test decides the specification's, and past it the pair is stored.
use borrow.Author.Tests.{le-leb, lt-leb}
use Rattle.comparison.proofs.sin_cos.katydidzinc_rotation_from_angle.Goals as goal

pub returns-then-out-lt2 : goal.returns-then-out-lt2
returns-then-out-lt2 c = simp (lt-leb _ _ c.if-out-lt2.true)

pub returns : goal.returns
returns c = simp (le-leb _ _ c.if-out-lt2.false, c.rotation_from_angle-r.ensures)
