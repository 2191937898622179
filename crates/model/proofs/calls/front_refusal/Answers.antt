-- `front_refusal` meets its contract, by those of its parts.
use Rattle.model.proofs.calls.front_refusal.Goals as goal

pub returns : goal.returns
returns c = rw c.finite_warm.ensures at c.storage_refusal.ensures
