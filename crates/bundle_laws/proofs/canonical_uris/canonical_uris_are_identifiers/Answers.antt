use Rattle.bundle_laws.proofs.Identified.{canonical_uris_are_identifiers}
use Rattle.bundle_laws.proofs.canonical_uris.canonical_uris_are_identifiers.Goals as goal

pub returns : goal.returns
returns c = canonical_uris_are_identifiers
