-- Patterns of linked documents by number.
use Rattle.std.specs.Prelude.{Option, option_and_then, slice_get}
use Rattle.definitions.specs.Values.{Text}
use Rattle.schema_scan.specs.CompiledDocuments.{compiled_patterns}
use Rattle.linker.specs.ReferenceNumbers.{document_at}
use Rattle.linker.specs.declared.linked.Linked.{Linked}
use Rattle.linker.specs.declared.pattern_numbers.PatternNumber.{PatternNumber}

-- its text
unfoldable pub pattern_text : Linked → PatternNumber → Option Text
pattern_text l n = option_and_then (λ d. slice_get (compiled_patterns d) n.pattern) (document_at l n.document)
