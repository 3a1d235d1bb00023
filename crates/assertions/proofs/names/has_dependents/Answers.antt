use Rattle.std.proofs.Common.{ap, sym, ◌∙◌}
use Rattle.definitions.specs.Values.{members}
use Rattle.definitions.specs.Assertions.{has_dependents}
use Rattle.json_doc.specs.Docs.{value, members_view}
use Rattle.json_doc.proofs.Views.{value-Dict}
use Rattle.assertions.specs.Dependents.{has_all_dependents}
use Rattle.assertions.proofs.Dependents.{of_object}
use Rattle.assertions.proofs.names.has_dependents.Goals as goal

pub returns-in-Dict : goal.returns-in-Dict
returns-in-Dict c =
    let v = value c.args.dependents.now in
    let is = ap value c.in-Dict.is ∙ value-Dict c.in-Dict.present in
    c.has_each_dependent.ensures (ap members is) ∙ ap (λ x. has_all_dependents x (members v)) is
    ∙ sym (of_object (members_view c.in-Dict.present) v) ∙ ap (λ x. has_dependents x v) (sym is)
