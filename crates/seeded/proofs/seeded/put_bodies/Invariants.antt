-- `put_bodies` meets its contract, a place a turn.
use Rattle.std.proofs.Common.{◌≡◌, length}
use Rattle.seeded.specs.Seeded.{body_place}
use Rattle.seeded.specs.Left.{front}
use Rattle.seeded.proofs.seeded.put_bodies.Given as goal

abbrev pub invariant-loop-p : goal.invariant-loop-p
invariant-loop-p l = (length l.bodies ≡ length l.initial.bodies) × (l.bodies ≡ front l.p (body_place l.seed) l.initial.bodies)
