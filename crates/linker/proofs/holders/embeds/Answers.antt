use Rattle.std.proofs.Common.{◌≡◌, length, ap, ◌∙◌}
use Rattle.definitions.specs.Documents.{resources_of}
use Rattle.definitions.specs.Reach.{holds_resource}
use Rattle.schema_scan.specs.CompiledDocuments.{compiled_view}
use Rattle.linker.proofs.CanonicalHolders.{as_many, several, alone}
use Rattle.linker.proofs.holders.embeds.Goals as goal

pub returns-then-resource_uris-gt1 : goal.returns-then-resource_uris-gt1
returns-then-resource_uris-gt1 c =
    let many : length c.resource_uris.result.now ≡ length (resources_of (compiled_view c.args.document.now.value)) =
    as_many c.resource_uris.result.now _ c.resource_uris.ensures ∙ ap (λ d. length (resources_of (compiled_view d))) c.deref.ensures in
    c.is_some.ensures ∙ c.resource_uri.ensures.held
    ∙ ap (λ d. holds_resource c.args.uri.now (compiled_view d)) c.deref-then-resource_uris-gt1.ensures
    ∙ several (compiled_view c.args.document.now.value) c.args.uri.now (length c.resource_uris.result.now) many c.if-resource_uris-gt1.true

pub returns-else-resource_uris-gt1 : goal.returns-else-resource_uris-gt1
returns-else-resource_uris-gt1 c =
    let many : length c.resource_uris.result.now ≡ length (resources_of (compiled_view c.args.document.now.value)) =
    as_many c.resource_uris.result.now _ c.resource_uris.ensures ∙ ap (λ d. length (resources_of (compiled_view d))) c.deref.ensures in
    alone (compiled_view c.args.document.now.value) c.args.uri.now (length c.resource_uris.result.now) many c.if-resource_uris-gt1.false
