use Rattle.std.proofs.Common.{◌≡◌, Option, Some, None, find, is_some, not, option_map, refl, ap, ◌∙◌}
use Rattle.std.specs.Global.{Global}
use Rattle.std.specs.List.{list_any}
use Rattle.std.specs.declared.rc.Rc.{Rc}
use Rattle.definitions.specs.Reach.{holds_resource}
use Rattle.definitions.specs.Values.{same_text}
use Rattle.schema_scan.specs.CompiledDocuments.{compiled_view}
use Rattle.schema_scan.specs.declared.compiled.Compiled.{Compiled}
use Rattle.linker.specs.ListedDocuments.{listed_documents}
use Rattle.stored_documents.specs.StoredDocuments.{stored_view}
use Rattle.tenant_documents.specs.HeldBeside.{stays}
use Rattle.tenant_documents.specs.Registries.{registry_view}
use Rattle.tenant_documents.proofs.registry.Registry.is_held_beside.Goals as goal

some_mapped : {X Y : Type 0} (f : X → Y) (o : Option X) → is_some o ≡ is_some (option_map f o)
some_mapped f None = refl
some_mapped f (Some x) = refl

pub returns-in-Some-clause-ok : goal.returns-in-Some-clause-ok
unfolding registry_view
returns-in-Some-clause-ok c = λ texts set.
    ap not (c.has_text.ensures texts set
    ∙ ap (λ t. list_any (same_text t) texts) (c.canonical.ensures ∙ ap (λ s. (stored_view s).canonical) c.deref.ensures))
    ∙ ap (λ o. stays texts o (find (holds_resource c.args.uri.now) (listed_documents c.args.self.now.library.value))) c.in-Some.ensures

pub returns-in_ok-library_holder-in-None-clause-ok : goal.returns-in_ok-library_holder-in-None-clause-ok
unfolding registry_view
returns-in_ok-library_holder-in-None-clause-ok c = λ texts set.
    let uri = c.args.uri.now in
    c.is_some.ensures
    ∙ some_mapped (λ (x : Rc Compiled Global). compiled_view x.value) c.in_ok-library_holder-in-None.field-0
    ∙ ap is_some (c.in_ok-library_holder-in-None.ensures ∙ ap (λ l. find (holds_resource uri) (listed_documents l)) c.deref-in-None.ensures)
    ∙ ap (λ o. stays texts o (find (holds_resource uri) (listed_documents c.args.self.now.library.value))) c.in-None.ensures
