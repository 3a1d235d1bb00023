use Rattle.std.proofs.Common.{◌≡◌, ◌∙◌, sym, ap, map, false}
use Rattle.std.proofs.lemmas.List.{map-append}
use Rattle.definitions.specs.Applied.{is_taken}
use Rattle.json_doc.specs.Docs.{value}
use Rattle.json_doc.specs.NamedMembers.{name_text, named_left}
use Rattle.keyword_plans.specs.Applications.{planned_others}
use Rattle.applicators.specs.Plans.{planned_view}
use Rattle.keyword_plans.specs.SearchedIn.{searched_in}
use Rattle.keyword_plans.specs.ObjectApplications.{linked_rules}
use Rattle.applicators.proofs.Growing.{grown}
use Rattle.keyword_plans.proofs.Taken.{others-here, same_takers, taken-same}
use Rattle.keyword_plans.proofs.planning.others.push_untaken.Goals as goal

pub loop-name-preserved-in_ok-push : goal.loop-name-preserved-in_ok-push
loop-name-preserved-in_ok-push c =
    let l = (searched_in c.args.searches.now).now in
    let v = value c.args.schema.now in
    let rest = named_left c.next.new.self in
    let same : searched_in c.loop-name.searches ≡ searched_in c.args.searches.now = c.loop-name.invariant.searched in
    record {
      searched = c.is_taken.ensures.searched ∙ same;
      planned = λ a k stands.
          let free : is_taken (linked_rules l) a (name_text c.in-Some.name) ≡ false =
          ap (is_taken (linked_rules l) a) (sym c.as_str.ensures) ∙ taken-same _ _ a c.as_str.result.now same ∙ sym (c.in_ok-is_taken.ensures.ok a (same_takers _ _ c.args.takers a same stands)) ∙ c.if-not-branch.true in
          grown (map (planned_view k a) c.loop-name.planned.items) _ _ _ (planned_others l k a v rest) _
          (ap (map (planned_view k a)) c.in_ok-push.ensures.items ∙ map-append (planned_view k a) c.loop-name.planned.items _)
          (ap (planned_others l k a v) c.in-Some.ensures.steps ∙ others-here l k a v (name_text c.in-Some.name) (value c.in-Some.member.now) rest free)
          (c.loop-name.invariant.planned a k stands);
    }
