use Rattle.std.proofs.Common.{◌≡◌, map, string_bytes, take}
use Rattle.definitions.specs.Pointers.{fragment_text}
use Rattle.json_pointer.proofs.pointer.Pointer.fragment_text.Given as goal

abbrev pub invariant-loop-token : goal.invariant-loop-token
invariant-loop-token l = string_bytes l.text ≡ fragment_text (map string_bytes (take l.token-index l.token-items))
