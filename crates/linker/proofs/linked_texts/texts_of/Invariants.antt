use Rattle.std.proofs.Common.{◌≡◌, map, take}
use Rattle.std.specs.List.{flat_map}
use Rattle.linker.specs.DocumentTexts.{identifying_texts}
use Rattle.linker.proofs.linked_texts.texts_of.Given as goal

abbrev pub invariant-loop-document : goal.invariant-loop-document
invariant-loop-document l = map (λ t. t.now) l.texts.items ≡ flat_map identifying_texts (take l.document-index l.documents)
