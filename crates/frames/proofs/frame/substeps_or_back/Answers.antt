-- `substeps_or_back` meets its contract: by the one for few bodies and joints, or by the one for any.
use Rattle.std.proofs.Common.{rules}
use Rattle.frames.proofs.BackLaws.{few_bodies, few_joints}
use Rattle.frames.proofs.frame.substeps_or_back.Goals as goal

pub few_substeps_or_back-requires : goal.few_substeps_or_back-requires
few_substeps_or_back-requires c = record { bodies_bound = few_bodies _ c.if-bodies-le-FEW_BODY_NUMBERS.true; numbers_bound = few_joints _ _ c.if-words-le-FEW_WORDS.true; room = search rules; n_le_most_substeps = search rules }
