use Rattle.std.proofs.Common.{◌∙◌}
use Rattle.std.proofs.lemmas.Result.{on_ok_weaker}
use Rattle.json_doc.specs.Docs.{members_value}
use Rattle.applicators.proofs.SharedNames.{along_members}
use Rattle.applicators.proofs.planning.members.plan_along_instance.Goals as goal

pub returns : goal.returns
returns c a k same =
    let all = along_members k a (members_value c.args.schemas.now) (members_value c.args.present.now) same c.iter.ensures.ordered c.iter-2.ensures.ordered in
    on_ok_weaker c.plan_at_names.result (λ e. e ∙ all) (c.plan_at_names.ensures a k)
