use Rattle.std.proofs.Common.{◌≡◌, ◌++◌, Bor, map, take, string_bytes}
use Rattle.definitions.specs.Values.{Text}
use Rattle.tenant_documents.proofs.repeated_texts.push_texts.Given as goal

abbrev pub invariant-loop-text : goal.invariant-loop-text
invariant-loop-text l = map (λ (t : Bor Text). t.now) l.texts.items ≡ map (λ (t : Bor Text). t.now) l.initial.texts.items ++ map string_bytes (take l.text-index l.more)
