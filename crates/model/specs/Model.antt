-- The model as a call is handed it: a header by value, and three slices.
use Rattle.std.specs.Prelude.{ℕ, List, Float}
use Rattle.multibody.specs.Model.{Model, model}
use Rattle.multibody.specs.declared.header.Header.{Header}

abbrev pub model_of : Header → List Float → List ℕ → List Float → Model
model_of h b w n = model h.params h.built b w n
