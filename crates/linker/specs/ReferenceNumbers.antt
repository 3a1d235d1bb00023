-- References of linked documents by number.
use Rattle.std.specs.Prelude.{ℕ, ◌≡◌, Contains, Option, Some, option_and_then, option_map, slice_get}
use Rattle.std.specs.declared.alloc.Global.{Global}
use Rattle.std.specs.declared.rc.Rc.{Rc}
use Rattle.definitions.specs.Scanning.{resource_uris}
use Rattle.definitions.specs.Schemas.{Schema}
use Rattle.definitions.specs.Values.{Text}
use Rattle.schema_scan.specs.CompiledDocuments.{compiled_schemas, compiled_texts}
use Rattle.schema_scan.specs.declared.compiled.Compiled.{Compiled}
use Rattle.linker.specs.declared.linked.Linked.{Linked}
use Rattle.linker.specs.declared.references.ReferenceNumber.{ReferenceNumber}

-- the resource's URI and the reference's text of these numbers
unfoldable pub pair_in : ℕ → ℕ → Compiled → Option (Text × Text)
pair_in resource text d =
    option_and_then (λ uri. option_map (λ t. (uri, t)) (slice_get (compiled_texts d) text)) (slice_get (resource_uris (compiled_schemas d)) resource)

-- the document of this number
unfoldable pub document_at : Linked → ℕ → Option Compiled
document_at l n = option_map (λ (d : Rc Compiled Global). d.value) (slice_get l.documents.items n)

unfoldable pub reference_pair : Linked → ReferenceNumber → Option (Text × Text)
reference_pair l n = option_and_then (pair_in n.resource n.text) (document_at l n.document)

-- the schema is one of the document of this number
abbrev pub StandsIn : Linked → Schema → ℕ → Type 0
StandsIn l s n = (d : Compiled) → document_at l n ≡ Some d → Contains (compiled_schemas d) s
