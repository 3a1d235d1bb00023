use Rattle.uri_ref.proofs.Identifiers.{stays}
use Rattle.uri_ref.proofs.laws.identifiers_stay.Goals as goal

pub returns : goal.returns
returns c = λ base identifier h. stays identifier h base
