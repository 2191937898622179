-- Two studies of planar models: the calls of which their list is made. The claim is multibody's `TwoStudies` of these.
use Rattle.multibody.specs.Studies.{Calls, model_calls}
use Rattle.model.specs.Planar.{planar}

abbrev pub planar_calls : Calls planar
planar_calls = model_calls planar
