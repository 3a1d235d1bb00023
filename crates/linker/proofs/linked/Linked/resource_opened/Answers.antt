use Rattle.std.proofs.Common.{sym, ◌∙◌}
use Rattle.linker.proofs.NamedSchemas.{opened_has_root}
use Rattle.linker.proofs.linked.Linked.resource_opened.Goals as goal

pub returns : goal.returns
returns c = λ s opens.
    let uri_is = opens.resource ∙ sym c.in_ok-uri.ensures ∙ sym c.as_str-2.ensures.value in
    c.resource_uri.ensures (opened_has_root c.args.self.now s c.as_str-2.result.now opens.inside opens.root uri_is) ∙ sym uri_is
