use Rattle.std.proofs.Common.{◌≡◌, map, drop, string_bytes}
use Rattle.definitions.specs.Pointers.{find}
use Rattle.json_doc.specs.Docs.{value}
use Rattle.locations.proofs.finding.find.Given as goal

abbrev pub invariant-loop-token : goal.invariant-loop-token
invariant-loop-token l =
    find (map string_bytes (drop l.token-index l.token-items)) (value l.found)
    ≡ find (map string_bytes l.token-items) (value l.fn.doc)
