use Rattle.std.proofs.Common.{◌≡◌, ◌++◌, map, string_bytes}
use Rattle.std.specs.BTreeMap.{keys}
use Rattle.linker.proofs.linked_texts.add_names.Given as goal

abbrev pub invariant-loop-name : goal.invariant-loop-name
invariant-loop-name l = map (λ t. t.now) l.texts.items ++ map string_bytes l.name-iterator ≡ map (λ t. t.now) l.initial.texts.items ++ map string_bytes (keys l.resources)
