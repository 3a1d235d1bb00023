use Rattle.json_doc.proofs.Equality.{same-Decides}
use Rattle.bundle_laws.proofs.equality.equal_values_are_one.Goals as goal

pub returns : goal.returns
returns c v w = same-Decides v w
