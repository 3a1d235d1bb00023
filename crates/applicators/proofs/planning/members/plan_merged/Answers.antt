use Rattle.std.proofs.Common.{◌∙◌, map, Some, None, ap, subst}
use Rattle.std.proofs.lemmas.List.{map-append}
use Rattle.json_doc.specs.Docs.{value}
use Rattle.json_doc.specs.Members.{HasNamesInOrder}
use Rattle.json_doc.specs.NamedMembers.{named_view, named_left}
use Rattle.json_doc.proofs.Nestings.{in_order_rest}
use Rattle.applicators.specs.Applications.{planned_at_names, at_schema}
use Rattle.applicators.specs.Plans.{planned_view}
use Rattle.applicators.proofs.Growing.{grown}
use Rattle.applicators.proofs.Merging.{first_takes}
use Rattle.applicators.proofs.Unevaluated.{skipped}
use Rattle.applicators.proofs.planning.members.plan_merged.Goals as goal

pub loop-name-preserved-in-Continue-branch-2 : goal.loop-name-preserved-in-Continue-branch-2
loop-name-preserved-in-Continue-branch-2 c =
    let m = named_view (c.in-Some.name, c.in-Some.member) in
    let ms = named_left c.next.new.self in
    let before = named_left c.loop-name.other_schemas in
    let after = named_left c.take_named.new.self in
    let v = value c.in-Some-take_named.schema.now in
    let ordered = subst HasNamesInOrder c.in-Some.ensures.steps c.loop-name.invariant.members in
    let taken = c.in-Some-take_named.ensures c.loop-name.invariant.schemas in
    record {
      schemas = taken.ordered;
      members = in_order_rest m ms ordered;
      planned = λ a k.
          grown (map (planned_view k a) c.loop-name.planned.items) _ (at_schema a k m (Some v)) _ _ _
          (ap (map (planned_view k a)) c.in_ok-push.ensures.items ∙ map-append (planned_view k a) c.loop-name.planned.items _)
          (ap (planned_at_names k a before) c.in-Some.ensures.steps ∙ first_takes (at_schema a k) m ms before after (Some v) taken ordered)
          (c.loop-name.invariant.planned a k);
    }

pub loop-name-preserved : goal.loop-name-preserved
loop-name-preserved c =
    let m = named_view (c.in-Some.name, c.in-Some.member) in
    let ms = named_left c.next.new.self in
    let before = named_left c.loop-name.other_schemas in
    let after = named_left c.take_named.new.self in
    let ordered = subst HasNamesInOrder c.in-Some.ensures.steps c.loop-name.invariant.members in
    let taken = c.in_default.ensures c.loop-name.invariant.schemas in
    record {
      schemas = taken.ordered;
      members = in_order_rest m ms ordered;
      planned = λ a k.
          skipped (map (planned_view k a) c.loop-name.planned.items) _ _ _
          (ap (planned_at_names k a before) c.in-Some.ensures.steps ∙ first_takes (at_schema a k) m ms before after None taken ordered)
          (c.loop-name.invariant.planned a k);
    }
