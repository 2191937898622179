-- `place_pair` meets its contract: each call's promise put into the next.
use Rattle.floats.specs.SinCos.{cosine_at, place_pair}
use Rattle.floats.proofs.sin_cos.place_pair.Goals as goal

pub returns : goal.returns
unfolding place_pair cosine_at
returns c = cc
