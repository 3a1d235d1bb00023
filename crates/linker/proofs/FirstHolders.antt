-- What the first linked document has that holds a URI: what all linked documents have there.
use Rattle.std.proofs.Common.{◌≡◌, is_some, string_bytes, true≢false, Option, Some, None, find, option_and_then, sym, ap, ◌∙◌}
use Rattle.definitions.specs.Values.{Text}
use Rattle.definitions.specs.Fragments.{Fragment}
use Rattle.definitions.specs.Schemas.{Document, schemas_of}
use Rattle.definitions.specs.Targets.{resource_root, target_by, schema_with_dynamic_anchor}
use Rattle.definitions.specs.Reach.{holds_resource}
use Rattle.schema_scan.specs.CompiledDocuments.{compiled_schemas, compiled_view}
use Rattle.linker.specs.LinkedDocuments.{linked_documents, linked_schemas}
use Rattle.linker.specs.declared.linked.Linked.{Linked}
use Rattle.linker.proofs.Tables.{found_holder, found_holds, no_holder, root_in_holder, root_nowhere, target_in_holder, target_nowhere, dynamically_anchored_in_holder, dynamically_anchored_nowhere}

pub root_of_first : (l : Linked) (uri : Text) (o : Option Document) → o ≡ find (holds_resource uri) (linked_documents l)
    → option_and_then (λ d. resource_root (schemas_of d.base d.value) uri) o ≡ resource_root (linked_schemas l) uri
unfolding linked_documents
root_of_first l uri None e = sym (root_nowhere (linked_documents l) uri (no_holder (linked_documents l) uri (sym e)))
root_of_first l uri (Some d) e = sym (root_in_holder (linked_documents l) uri d (found_holder (linked_documents l) uri d l.distinct (sym e)))

pub target_of_first : (l : Linked) (uri : Text) (f : Fragment) (o : Option Document) → o ≡ find (holds_resource uri) (linked_documents l)
    → option_and_then (λ d. target_by (schemas_of d.base d.value) uri f) o ≡ target_by (linked_schemas l) uri f
unfolding linked_documents
target_of_first l uri f None e = sym (target_nowhere (linked_documents l) uri f (no_holder (linked_documents l) uri (sym e)))
target_of_first l uri f (Some d) e = sym (target_in_holder (linked_documents l) uri d f (found_holder (linked_documents l) uri d l.distinct (sym e)))

pub anchored_of_first : (l : Linked) (uri name : Text) (o : Option Document) → o ≡ find (holds_resource uri) (linked_documents l)
    → option_and_then (λ d. schema_with_dynamic_anchor (schemas_of d.base d.value) uri name) o ≡ schema_with_dynamic_anchor (linked_schemas l) uri name
unfolding linked_documents
anchored_of_first l uri name None e = sym (dynamically_anchored_nowhere (linked_documents l) uri name (no_holder (linked_documents l) uri (sym e)))
anchored_of_first l uri name (Some d) e =
    sym (dynamically_anchored_in_holder (linked_documents l) uri name d (found_holder (linked_documents l) uri d l.distinct (sym e)))

-- the resource that was linked has a root in its document
pub root_is_there : (l : Linked) → None ≡ resource_root (compiled_schemas l.document.value) (string_bytes l.uri) → ⊥
unfolding linked_documents
root_is_there l none = true≢false (sym (found_holds (linked_documents l) (string_bytes l.uri) (compiled_view l.document.value) l.holder).1 ∙ ap is_some (sym none))
