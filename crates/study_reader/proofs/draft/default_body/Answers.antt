use native.Mathlib.Nat.{add-zero}
use Rattle.study_reader.specs.Draft.{puts}
use Rattle.study_reader.proofs.draft.default_body.Goals as goal

pub returns : goal.returns
unfolding puts
returns c = rw (c.set.ensures, c.body_base.ensures, add-zero)
