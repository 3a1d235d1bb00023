use Rattle.std.proofs.Common.{◌≡◌, Some, None, find, option_map, sym, ap, ◌∙◌}
use Rattle.definitions.specs.Reach.{holds_resource}
use Rattle.definitions.specs.Values.{same_text}
use Rattle.schema_scan.specs.CompiledDocuments.{compiled_view}
use Rattle.linker.specs.ListedDocuments.{listed_documents}
use Rattle.linker.specs.SoundLists.{listed_sound}
use Rattle.tenant_documents.specs.Registries.{registry_view}
use Rattle.tenant_documents.proofs.Holders.{named_by}
use Rattle.tenant_documents.proofs.registry.Registry.is_in_library.Goals as goal

pub returns-in-Some : goal.returns-in-Some
unfolding registry_view
returns-in-Some c =
    let uri = c.args.canonical_uri.now in
    let library = c.args.self.now.library.value in
    let d = compiled_view c.in-Some.document.value in
    let found : find (holds_resource uri) (listed_documents library) ≡ Some d =
    ap (λ l. find (holds_resource uri) (listed_documents l)) (sym c.deref.ensures) ∙ sym c.in_ok-document.ensures ∙ ap (option_map (λ x. compiled_view x.value)) c.in-Some.is in
    c.eq.ensures ∙ ap (same_text uri) (c.canonical.ensures ∙ ap (λ x. (compiled_view x).canonical) c.deref-in-Some.ensures)
    ∙ sym (named_by (listed_documents library) uri (Some d) (listed_sound library) found)

pub returns-in-None : goal.returns-in-None
unfolding registry_view
returns-in-None c =
    let uri = c.args.canonical_uri.now in
    let library = c.args.self.now.library.value in
    let found : find (holds_resource uri) (listed_documents library) ≡ None =
    ap (λ l. find (holds_resource uri) (listed_documents l)) (sym c.deref.ensures) ∙ sym c.in_ok-document.ensures ∙ ap (option_map (λ x. compiled_view x.value)) c.in-None.is in
    sym (named_by (listed_documents library) uri None (listed_sound library) found)
