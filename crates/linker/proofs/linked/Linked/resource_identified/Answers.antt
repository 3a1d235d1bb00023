use Rattle.std.proofs.Common.{length, sym, ap, ◌∙◌}
use Rattle.linker.proofs.StandingSchemas.{alone}
use Rattle.linker.proofs.linked.Linked.resource_identified.Goals as goal

pub returns : goal.returns
returns c = λ s inside root has.
    let l = c.args.self.now in
    let there = alone l s (ap length (sym c.as_slice.ensures.value) ∙ c.if-as_slice-ne1.false) inside in
    c.resource_identified.ensures s (there c.in_ok-document.field-0.now (sym c.in_ok-document.ensures)) root has
