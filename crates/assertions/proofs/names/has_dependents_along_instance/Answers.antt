use Rattle.std.proofs.Common.{◌∙◌}
use Rattle.json_doc.specs.Docs.{value, members_value}
use Rattle.assertions.proofs.Dependents.{along_instance}
use Rattle.assertions.proofs.names.has_dependents_along_instance.Goals as goal

pub returns : goal.returns
returns c same =
    c.has_dependents_of_members.ensures
    ∙ along_instance (value c.args.instance.now) (members_value c.args.lists.now) (members_value c.args.present.now) same c.iter.ensures.ordered c.iter-2.ensures.ordered
