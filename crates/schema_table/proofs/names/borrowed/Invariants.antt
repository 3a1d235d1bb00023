use Rattle.std.proofs.Common.{◌≡◌, map, string_bytes, take}
use Rattle.schema_table.proofs.names.borrowed.Given as goal

abbrev pub invariant-loop-text : goal.invariant-loop-text
invariant-loop-text l = map (λ t. t.now) l.borrowed.items ≡ map string_bytes (take l.text-index l.texts)
