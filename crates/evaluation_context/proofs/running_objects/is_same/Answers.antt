use Rattle.std.proofs.Common.{not, sym, ap, ◌∙◌}
use Rattle.std.proofs.lemmas.Bool.{and_left}
use Rattle.locations.specs.Steps.{tokens}
use Rattle.evaluation_context.specs.Runnings.{last_steps, onward_identity, running_identity}
use Rattle.evaluation_context.proofs.running_objects.is_same.Goals as goal

pub returns-else-not-are_other_ends : goal.returns-else-not-are_other_ends
returns-else-not-are_other_ends c =
    let path = tokens c.args.path.now in
    let differ = c.are_other_ends.ensures (running_identity path c.args.object.now) (onward_identity c.args.origin.now (last_steps c.args.onward path))
    c.if-not-are_other_ends.false c.requires.told c.requires.own in
    ap not c.if-not-are_other_ends.false ∙ sym (and_left _ _ differ)
