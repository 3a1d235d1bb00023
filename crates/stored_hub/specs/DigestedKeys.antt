-- The digests of keys.
use Rattle.std.specs.Prelude.{List, map, string_bytes}
use Rattle.definitions.specs.Values.{Text}
use Rattle.stored_hub.specs.declared.digested_key.DigestedKey.{DigestedKey}

abbrev pub digests_in : List DigestedKey → List Text
digests_in ks = map (λ k. string_bytes k.tenant) ks
