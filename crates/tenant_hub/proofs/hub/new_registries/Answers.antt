use Rattle.std.proofs.Common.{◌≡◌, [], ◌∷◌, ◌++◌, length, map, sym, ap, ap₂, ◌∙◌, append_assoc, append-nil, arith}
use Rattle.std.proofs.lemmas.List.{map-append, nil_from_length}
use Rattle.std.specs.Vec.Iter.{into_iter_items}
use Rattle.linker.specs.ListedDocuments.{listed_documents}
use Rattle.tenants_file.specs.Tenants.{tenant_view}
use Rattle.tenant_hub.specs.KeyedRegistries.{keyed_view, new_registry}
use Rattle.tenant_hub.proofs.hub.new_registries.Goals as goal

pub loop-tenant-preserved : goal.loop-tenant-preserved
loop-tenant-preserved c =
    let l = c.loop-tenant in
    let step = c.in-Some.ensures.steps.0 in
    record {
      all = append_assoc l.yielded (c.in-Some.tenant ∷ []) _ ∙ rw (← step) l.invariant.all;
      made =
          ap (map keyed_view) c.in_ok-push.ensures.items ∙ map-append keyed_view l.registries.items (c.in_ok-new.field-0 ∷ [])
          ∙ ap₂ (λ ks k. ks ++ k ∷ []) l.invariant.made
          (c.in_ok-new.ensures ∙ ap (λ s. new_registry (listed_documents s) (tenant_view c.in-Some.tenant)) c.in_ok-library.ensures.cases) ∙ sym (map-append (λ t. new_registry (listed_documents c.args.library.now.value) (tenant_view t)) l.yielded (c.in-Some.tenant ∷ []));
      left =
          let was = l.invariant.left in
          let gone = c.in-Some.ensures.steps.1 in
          let short = ap length step in
          omega arith;
    }

pub returns-clause-ok : goal.returns-clause-ok
returns-clause-ok c =
    let l = c.loop-tenant in
    let none : into_iter_items l.tenant-iterator ≡ [] = nil_from_length _ (sym l.invariant.left ∙ c.in-None.ensures.steps.0) in
    let all : l.yielded ≡ c.args.tenants.items = sym (append-nil l.yielded) ∙ rw none at l.invariant.all ∙ c.into_iter-tenant-iterator.ensures.into_iter_gives.0 in
    l.invariant.made ∙ ap (map (λ t. new_registry (listed_documents c.args.library.now.value) (tenant_view t))) all
