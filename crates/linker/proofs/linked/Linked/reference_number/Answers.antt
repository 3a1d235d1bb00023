use Rattle.std.proofs.Common.{sym}
use Rattle.linker.proofs.StandingSchemas.{held_there, numbered}
use Rattle.linker.proofs.linked.Linked.reference_number.Goals as goal

pub returns : goal.returns
returns c = λ s stands resource has.
    let l = c.args.self.now in
    let d = c.in_ok-compiled.compiled.now in
    let at = sym c.in_ok-compiled.ensures in
    let there = stands d at in
    numbered l s d _ c.args.resource.now c.args.reference.now at
    (c.resource_number.ensures (held_there s d c.args.resource.now there resource))
    (c.reference_number.ensures s there has)
