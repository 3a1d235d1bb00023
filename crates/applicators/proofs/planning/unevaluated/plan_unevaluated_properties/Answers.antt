use Rattle.std.proofs.Common.{◌∙◌, sym, ap, map}
use Rattle.std.proofs.lemmas.Result.{on_ok_weaker}
use Rattle.definitions.specs.Values.{members}
use Rattle.json_doc.specs.Docs.{value}
use Rattle.json_doc.specs.NamedMembers.{name_text}
use Rattle.applicators.specs.Applications.{planned_unevaluated_properties}
use Rattle.applicators.proofs.planning.unevaluated.plan_unevaluated_properties.Goals as goal

pub returns-in-Some : goal.returns-in-Some
returns-in-Some c a k same =
    let all = ap (planned_unevaluated_properties k a (value c.args.schema.now) (map name_text c.args.names.now)) (c.in-Some.ensures ∙ ap members (sym same)) in
    on_ok_weaker c.plan_unevaluated_members.result (λ e. e ∙ all) (c.plan_unevaluated_members.ensures a k)
