use Rattle.std.proofs.Common.{ap, ap₂, ◌∙◌}
use Rattle.definitions.specs.Resolution.{resolve}
use Rattle.definitions.specs.Uris.{recompose, split}
use Rattle.uri_ref.proofs.absolute_references.resolved_reference.Goals as goal

pub returns-clause-text : goal.returns-clause-text
returns-clause-text c =
    c.in_ok-text.ensures ∙ ap recompose (c.parts.ensures ∙ c.in_ok-resolved.ensures ∙ ap₂ resolve c.split.ensures.parts c.split-2.ensures.parts)

pub returns-clause-named : goal.returns-clause-named
returns-clause-named c =
    c.in_ok-named.ensures c.args.resource.now c.args.reference.now (c.in_ok-resolved.ensures ∙ ap₂ resolve c.split.ensures.parts c.split-2.ensures.parts)
