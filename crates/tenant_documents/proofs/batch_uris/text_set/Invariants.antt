use Rattle.std.proofs.Common.{Bor, map, take}
use Rattle.definitions.specs.Values.{Text}
use Rattle.tenant_documents.specs.HeldBeside.{IsSetOf}
use Rattle.tenant_documents.proofs.batch_uris.text_set.Given as goal

abbrev pub invariant-loop-text : goal.invariant-loop-text
invariant-loop-text l = IsSetOf l.set (map (λ (t : Bor Text). t.now) (take l.text-index l.texts))
