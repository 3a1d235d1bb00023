use Rattle.bundle_laws.proofs.CanonicalTexts.{canonical_uris_are_texts}
use Rattle.bundle_laws.proofs.canonical_uris.canonical_uris_are_texts.Goals as goal

pub returns : goal.returns
returns c = canonical_uris_are_texts
