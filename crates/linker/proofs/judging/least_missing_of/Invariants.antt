use Rattle.std.proofs.Common.{◌≡◌, ◌++◌, List, take, filter, is_none, option_map, map, string_bytes}
use Rattle.definitions.specs.Values.{Text}
use Rattle.definitions.specs.Schemas.{table_of}
use Rattle.definitions.specs.Targets.{target}
use Rattle.definitions.specs.Reach.{least}
use Rattle.linker.specs.SharedDocuments.{shared_documents}
use Rattle.linker.proofs.judging.least_missing_of.Given as goal

abbrev pub invariant-loop-reference : goal.invariant-loop-reference
invariant-loop-reference l =
    (before : List Text) → option_map (λ t. t.now) l.initial.least ≡ least before
    → option_map (λ t. t.now) l.least ≡ least (before ++ filter (λ r. is_none (target (table_of (shared_documents l.documents)) r)) (map string_bytes (take l.reference-index l.reference-items)))
