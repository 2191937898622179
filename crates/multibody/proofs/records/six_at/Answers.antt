use native.Mathlib.Nat.{add_assoc}
use Rattle.multibody.proofs.records.six_at.Goals as goal

pub returns : goal.returns
returns c = simp add_assoc
