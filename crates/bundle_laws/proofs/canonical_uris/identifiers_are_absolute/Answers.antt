use Rattle.bundle_laws.proofs.Identified.{identifiers_are_absolute}
use Rattle.bundle_laws.proofs.canonical_uris.identifiers_are_absolute.Goals as goal

pub returns : goal.returns
returns c = identifiers_are_absolute
