-- What an indexed document owns, as the definitions find it.
use Rattle.std.proofs.Common.{◌≡◌, ℕ, List, Some, false, is_some, option_and_then, string_bytes, sym, ap, ◌∙◌}
use Rattle.std.specs.List.{find, list_any, slice_get}
use Rattle.definitions.specs.Values.{Text, same_text}
use Rattle.definitions.specs.Lists.{has_repeat}
use Rattle.definitions.specs.Reach.{references_in}
use Rattle.definitions.specs.Scanning.{resource_uris, scan_faults}
use Rattle.definitions.specs.Targets.{resource_root, schema_with_anchor, schema_with_dynamic_anchor}
use Rattle.json_doc.specs.Docs.{value}
use Rattle.locations.specs.Hops.{Hop}
use Rattle.definition_laws.proofs.AcceptedDocuments.{first_none, scanned}
use Rattle.schema_table.specs.Gathering.{table_marks, table_references, table_uris, table_ways}
use Rattle.schema_scan.specs.CompiledDocuments.{compiled_base, compiled_value, compiled_schemas, compiled_view}
use Rattle.schema_table.specs.Lookups.{has_dynamic_mark, has_mark, marked_schema, root_at}
use Rattle.schema_scan.specs.declared.compiled.Compiled.{Compiled}
use Rattle.schema_table.proofs.Indexing.{document-anchored, document-canonical, document-dynamic_held, document-dynamically_anchored, document-references, document-root, document-uris}

pub owned-uris : (d : Compiled) → table_uris d.table ≡ resource_uris (compiled_schemas d)
unfolding compiled_base compiled_value
owned-uris d = d.of_document.uris ∙ sym (document-uris (string_bytes d.base) (value d.document))

pub owned-references : (d : Compiled) → table_references d.table ≡ references_in (compiled_view d)
unfolding compiled_base compiled_value
owned-references d = d.of_document.references ∙ sym (document-references (string_bytes d.base) (value d.document))

pub owned-canonical : (d : Compiled) → slice_get (table_uris d.table) 0 ≡ Some (compiled_view d).canonical
unfolding compiled_base compiled_value
owned-canonical d = ap (λ us. slice_get us 0) d.of_document.uris ∙ document-canonical (string_bytes d.base) (value d.document)

-- ---- the root of a resource
pub owned-distinct : (d : Compiled) → has_repeat same_text (resource_uris (compiled_schemas d)) ≡ false
unfolding compiled_base compiled_value
owned-distinct d = (scanned (compiled_view d) (first_none (scan_faults (string_bytes d.base) (value d.document)) d.faultless)).uris

pub owned-root : (d : Compiled) (uri : Text) (n : ℕ) → slice_get (resource_uris (compiled_schemas d)) n ≡ Some uri
    → (way : List Hop) × (slice_get (table_ways d.table) n ≡ Some way) × (root_at uri way (value d.document) ≡ resource_root (compiled_schemas d) uri)
unfolding compiled_base compiled_value
owned-root d uri n at =
    let found = document-root (string_bytes d.base) (value d.document) d.well_formed uri n (owned-distinct d)
    (ap (λ us. slice_get us n) (sym d.of_document.uris ∙ owned-uris d) ∙ at) in
    (found.0, ap (λ ws. slice_get ws n) d.of_document.ways ∙ found.1, found.2)

pub owned-anchored : (d : Compiled) (uri name : Text)
    → option_and_then (marked_schema (value d.document)) (find (has_mark uri name) (table_marks d.table)) ≡ schema_with_anchor (compiled_schemas d) uri name
unfolding compiled_base compiled_value
owned-anchored d uri name =
    ap (λ ms. option_and_then (marked_schema (value d.document)) (find (has_mark uri name) ms)) d.of_document.marks
    ∙ document-anchored (string_bytes d.base) (value d.document) d.well_formed uri name

pub owned-dynamically_anchored : (d : Compiled) (uri name : Text)
    → option_and_then (marked_schema (value d.document)) (find (has_dynamic_mark uri name) (table_marks d.table)) ≡ schema_with_dynamic_anchor (compiled_schemas d) uri name
unfolding compiled_base compiled_value
owned-dynamically_anchored d uri name =
    ap (λ ms. option_and_then (marked_schema (value d.document)) (find (has_dynamic_mark uri name) ms)) d.of_document.marks
    ∙ document-dynamically_anchored (string_bytes d.base) (value d.document) d.well_formed uri name

pub owned-dynamic_held : (d : Compiled) (uri name : Text)
    → list_any (has_dynamic_mark uri name) (table_marks d.table) ≡ is_some (schema_with_dynamic_anchor (compiled_schemas d) uri name)
unfolding compiled_base compiled_value
owned-dynamic_held d uri name =
    ap (list_any (has_dynamic_mark uri name)) d.of_document.marks ∙ document-dynamic_held (string_bytes d.base) (value d.document) uri name
