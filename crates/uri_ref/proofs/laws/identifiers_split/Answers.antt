use Rattle.definitions.specs.Uris.{split}
use Rattle.definitions.specs.Resolution.{resolve}
use Rattle.uri_ref.proofs.Sound.{split_sound, resolve_sound}
use Rattle.uri_ref.proofs.Unique.{identified}
use Rattle.uri_ref.proofs.laws.identifiers_split.Goals as goal

pub returns : goal.returns
returns c = λ base reference h.
    identified (resolve (split base) (split reference)) (resolve_sound (split base) (split reference) (split_sound base) (split_sound reference)) h
