use Rattle.std.proofs.Common.{◌≡◌, Option, Some, option_and_then, string_bytes, sym, ap, ◌∙◌}
use Rattle.std.specs.List.{slice_get}
use Rattle.definitions.specs.Schemas.{Schema}
use Rattle.definitions.specs.Scanning.{resource_uris}
use Rattle.definitions.specs.Targets.{resource_root}
use Rattle.schema_scan.specs.CompiledDocuments.{compiled_schemas, compiled_view}
use Rattle.schema_scan.specs.declared.compiled.Compiled.{Compiled}
use Rattle.linker.specs.LinkedDocuments.{linked_documents, linked_uri}
use Rattle.linker.specs.declared.linked.Linked.{Linked}
use Rattle.linker.proofs.FirstHolders.{root_is_there, root_of_first}
use Rattle.linker.proofs.linked.Linked.root.Goals as goal

-- what the document answers by the number is its root of the resource that was linked
root_by_number : (l : Linked) (d : Compiled) (o : Option Schema) → d ≡ l.document.value
    → o ≡ option_and_then (resource_root (compiled_schemas d)) (slice_get (resource_uris (compiled_schemas d)) l.number)
    → o ≡ resource_root (compiled_schemas l.document.value) (string_bytes l.uri)
root_by_number l d o same e =
    e ∙ ap (λ d. option_and_then (resource_root (compiled_schemas d)) (slice_get (resource_uris (compiled_schemas d)) l.number)) same
    ∙ ap (option_and_then (resource_root (compiled_schemas l.document.value))) l.is_numbered

pub unreachable-requires : goal.unreachable-requires
unreachable-requires c =
    let l = c.args.self.now in
    root_is_there l (root_by_number l _ _ c.deref.ensures c.in-None.ensures)

pub returns : goal.returns
unfolding linked_documents linked_uri
returns c =
    let l = c.args.self.now in
    sym (root_of_first l (string_bytes l.uri) (Some (compiled_view l.document.value)) (sym l.holder))
    ∙ sym (root_by_number l _ _ c.deref.ensures c.in-Some.ensures)
