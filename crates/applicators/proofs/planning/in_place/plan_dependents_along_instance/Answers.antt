use Rattle.std.proofs.Common.{◌∙◌}
use Rattle.std.proofs.lemmas.Result.{on_ok_weaker}
use Rattle.json_doc.specs.Docs.{members_value}
use Rattle.applicators.proofs.SharedNames.{along_dependents}
use Rattle.applicators.proofs.planning.in_place.plan_dependents_along_instance.Goals as goal

pub returns : goal.returns
returns c a k whole same =
    let all = along_dependents k a (members_value c.args.schemas.now) (members_value c.args.present.now) same c.iter.ensures.ordered c.iter-2.ensures.ordered in
    on_ok_weaker c.plan_dependents_of_members.result (λ e. e ∙ all) (c.plan_dependents_of_members.ensures a k whole)
