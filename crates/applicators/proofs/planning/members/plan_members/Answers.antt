use Rattle.std.proofs.Common.{◌∙◌, sym, ap, map, [], Bor, Option, option_map, unwrap_or}
use Rattle.definitions.specs.Values.{members}
use Rattle.json_doc.specs.Docs.{members_value}
use Rattle.json_doc.specs.declared.members.Members.{Members}
use Rattle.applicators.specs.Plans.{planned_view}
use Rattle.applicators.proofs.SharedNames.{without_members}
use Rattle.applicators.proofs.planning.members.plan_members.Goals as goal

pub returns-in-None : goal.returns-in-None
returns-in-None c a k same =
    let none = sym c.members.ensures ∙ ap (λ (o : Option (Bor Members)). unwrap_or (option_map (λ m. members_value m.now) o) []) c.in-None.is in
    ap (map (planned_view k a)) c.requires ∙ sym (without_members k a (members_value c.args.schemas.now) (ap members same ∙ none))
