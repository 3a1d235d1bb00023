use Rattle.std.proofs.Common.{◌≡◌, Some, String, cond, List, filter, map, take, string_bytes, option_map, refl, ap, sym, ◌∙◌}
use Rattle.std.proofs.lemmas.List.{take_all}
use Rattle.std.specs.Global.{Global}
use Rattle.std.specs.List.{list_any}
use Rattle.definitions.specs.Documents.{others_of, resources_of}
use Rattle.definitions.specs.Reach.{holds_resource, least, lesser}
use Rattle.definitions.specs.Registries.{documents_seen}
use Rattle.definitions.specs.Values.{Text}
use Rattle.lemmas.proofs.Lists.{map-take_more}
use Rattle.stored_documents.specs.StoredDocuments.{stored_view}
use Rattle.tenant_documents.specs.Registries.{registry_view}
use Rattle.tenant_documents.proofs.LeastTaken.{least_filtered}
use Rattle.tenant_documents.proofs.taken_uris.taken_uri.Goals as goal

pub loop-uri-init : goal.loop-uri-init
loop-uri-init c = refl

pub loop-uri-preserved : goal.loop-uri-preserved
loop-uri-preserved c =
    let seen = documents_seen (registry_view c.args.registry.now) in
    let items : List (String Global) = c.resource_uris-uri-items.result.now in
    let named = (stored_view c.args.document.now).canonical in
    let p = λ (u : Text). list_any (holds_resource u) (others_of named seen) in
    let s = string_bytes c.uri-item.result in
    let so_far = option_map (λ t. t.now) c.loop-uri.least in
    let before = map string_bytes (take c.loop-uri.uri-index items) in
    c.in_ok-least.ensures.ok
    ∙ ap (λ n. cond (list_any (holds_resource c.deref.result.now) (others_of n seen)) (Some (lesser c.deref.result.now so_far)) so_far) c.canonical-canonical.ensures
    ∙ ap (λ u. cond (p u) (Some (lesser u so_far)) so_far) c.deref.ensures
    ∙ ap (λ l. cond (p s) (Some (lesser s l)) l) c.loop-uri.invariant
    ∙ sym (least_filtered p before s)
    ∙ sym (ap (λ us. least (filter p us)) (map-take_more string_bytes items c.loop-uri.uri-index c.uri-item.result c.loop-uri-test.true c.uri-item.is))

pub returns-clause-ok : goal.returns-clause-ok
returns-clause-ok c =
    let seen = documents_seen (registry_view c.args.registry.now) in
    let items : List (String Global) = c.resource_uris-uri-items.result.now in
    let named = (stored_view c.args.document.now).canonical in
    let p = λ (u : Text). list_any (holds_resource u) (others_of named seen) in
    let whole : map string_bytes (take c.loop-uri.uri-index items) ≡ resources_of (stored_view c.args.document.now) =
    ap (map string_bytes) (take_all c.loop-uri.uri-index items c.loop-uri-test.false) ∙ c.resource_uris-uri-items.ensures in
    c.loop-uri.invariant ∙ ap (λ us. least (filter p us)) whole
