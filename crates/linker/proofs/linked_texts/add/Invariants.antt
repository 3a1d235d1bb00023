use Rattle.std.proofs.Common.{◌≡◌, ◌++◌, map, string_bytes, take}
use Rattle.linker.proofs.linked_texts.add.Given as goal

abbrev pub invariant-loop-string : goal.invariant-loop-string
invariant-loop-string l = map (λ t. t.now) l.texts.items ≡ map (λ t. t.now) l.fn.texts.items ++ map string_bytes (take l.string-index l.strings)
