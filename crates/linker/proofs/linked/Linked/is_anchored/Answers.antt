use Rattle.std.proofs.Common.{false, option_map, unwrap_or, ap, ◌∙◌}
use Rattle.schema_scan.specs.DynamicResources.{has_uri}
use Rattle.linker.specs.LinkedDocuments.{linked_documents}
use Rattle.linker.proofs.linked.Linked.is_anchored.Goals as goal

pub returns-in-Some : goal.returns-in-Some
unfolding linked_documents
returns-in-Some c =
    c.contains.ensures ∙ ap (λ uris. unwrap_or (option_map (has_uri c.args.uri.now) uris) false) c.in-Some.ensures.value ∙ c.args.self.now.by_dynamic_anchor c.args.uri.now c.args.name.now

pub returns-in-None : goal.returns-in-None
unfolding linked_documents
returns-in-None c =
    ap (λ uris. unwrap_or (option_map (has_uri c.args.uri.now) uris) false) c.in-None.ensures.value ∙ c.args.self.now.by_dynamic_anchor c.args.uri.now c.args.name.now
