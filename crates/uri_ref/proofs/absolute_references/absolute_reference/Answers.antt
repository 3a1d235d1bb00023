use Rattle.std.proofs.Common.{ap₂, ◌∙◌}
use Rattle.definitions.specs.Resolution.{resolve}
use Rattle.uri_ref.proofs.absolute_references.absolute_reference.Goals as goal

pub returns : goal.returns
returns c =
    c.named_by.ensures c.args.resource.now c.args.reference.now (c.in_ok-resolved.ensures ∙ ap₂ resolve c.split.ensures.parts c.split-2.ensures.parts)
