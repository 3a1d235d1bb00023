use Rattle.std.proofs.Common.{◌≡◌, Some, None, cond, take, map, string_bytes}
use Rattle.std.specs.BTreeMap.{get_by_text}
use Rattle.std.specs.List.{list_any}
use Rattle.definitions.specs.Values.{Text, same_text}
use Rattle.std.specs.Option.{option_or}
use Rattle.linker.proofs.compound_documents.number_uris.Given as goal

abbrev pub invariant-loop-uri : goal.invariant-loop-uri
invariant-loop-uri l =
    (t : Text) → get_by_text l.numbers t
    ≡ option_or (get_by_text l.initial.numbers t) (cond (list_any (same_text t) (map string_bytes (take l.uri-index l.uris))) (Some l.number) None)
