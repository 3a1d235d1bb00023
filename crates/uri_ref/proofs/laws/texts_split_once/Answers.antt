use Rattle.uri_ref.proofs.Unique.{once}
use Rattle.uri_ref.proofs.laws.texts_split_once.Goals as goal

pub returns : goal.returns
returns c = once
