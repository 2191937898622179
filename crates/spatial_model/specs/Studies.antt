-- Two studies of spatial models: the calls of which their list is made. The claim is multibody's `TwoStudies` of these.
use Rattle.multibody.specs.Studies.{Calls, model_calls}
use Rattle.spatial_model.specs.Spatial.{spatial}

abbrev pub spatial_calls : Calls spatial
spatial_calls = model_calls spatial
