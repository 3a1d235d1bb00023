use Rattle.std.proofs.Common.{◌≡◌, not, Some, None, find, option_map, sym, ap, ◌∙◌}
use Rattle.definitions.specs.Reach.{holds_resource}
use Rattle.definitions.specs.Values.{same_text}
use Rattle.schema_scan.specs.CompiledDocuments.{compiled_view}
use Rattle.linker.specs.ListedDocuments.{listed_documents}
use Rattle.stored_documents.specs.DocumentLists.{documents_in}
use Rattle.stored_documents.specs.StoredDocuments.{stored_view}
use Rattle.tenant_documents.specs.Registries.{registry_view}
use Rattle.tenant_documents.proofs.Holders.{held_in_own, held_in_library}
use Rattle.tenant_documents.proofs.KeptRegistries.{registry_both}
use Rattle.tenant_documents.proofs.taken_uris.is_held_by_another.Goals as goal

pub returns-in-Some-clause-ok : goal.returns-in-Some-clause-ok
unfolding registry_view
returns-in-Some-clause-ok c =
    let r = c.args.registry.now in
    let named = c.args.canonical_uri.now in
    c.ne.ensures ∙ ap (λ t. not (same_text named t)) (c.canonical.ensures ∙ ap (λ s. (stored_view s).canonical) c.deref.ensures)
    ∙ sym (held_in_own (documents_in r.documents) (listed_documents r.library.value) c.args.uri.now named (stored_view c.in-Some.own.now.value) (registry_both r) (sym c.in-Some.ensures))

pub returns-in-Some-2-clause-ok : goal.returns-in-Some-2-clause-ok
unfolding registry_view
returns-in-Some-2-clause-ok c =
    let r = c.args.registry.now in
    let named = c.args.canonical_uri.now in
    let uri = c.args.uri.now in
    let d = compiled_view c.in-Some-2.document.value in
    let found : find (holds_resource uri) (listed_documents r.library.value) ≡ Some d =
    ap (λ l. find (holds_resource uri) (listed_documents l)) (sym c.deref-in-None.ensures) ∙ sym c.in_ok-document-in-None.ensures ∙ ap (option_map (λ x. compiled_view x.value)) c.in-Some-2.is in
    c.ne-in-Some-2.ensures ∙ ap (λ t. not (same_text named t)) (c.canonical-in-Some-2.ensures ∙ ap (λ x. (compiled_view x).canonical) c.deref-in-Some-2.ensures)
    ∙ sym (held_in_library (documents_in r.documents) (listed_documents r.library.value) uri named (Some d) (registry_both r) (sym c.in-None.ensures) found)

pub returns-in-None-2-clause-ok : goal.returns-in-None-2-clause-ok
unfolding registry_view
returns-in-None-2-clause-ok c =
    let r = c.args.registry.now in
    let uri = c.args.uri.now in
    let found : find (holds_resource uri) (listed_documents r.library.value) ≡ None =
    ap (λ l. find (holds_resource uri) (listed_documents l)) (sym c.deref-in-None.ensures) ∙ sym c.in_ok-document-in-None.ensures ∙ ap (option_map (λ x. compiled_view x.value)) c.in-None-2.is in
    sym (held_in_library (documents_in r.documents) (listed_documents r.library.value) uri c.args.canonical_uri.now None (registry_both r) (sym c.in-None.ensures) found)
