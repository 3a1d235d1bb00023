use Rattle.std.proofs.Common.{◌∙◌, sym, ap, map}
use Rattle.std.proofs.lemmas.Result.{on_ok_weaker}
use Rattle.definitions.specs.Applied.{list_applications}
use Rattle.json_doc.specs.Docs.{value}
use Rattle.applicators.specs.Applications.{planned_elements}
use Rattle.applicators.proofs.Listed.{each_listed-List}
use Rattle.applicators.proofs.planning.in_place.plan_listed.Goals as goal

pub returns-in-List : goal.returns-in-List
returns-in-List c a k same =
    let all = ap (λ ds. planned_elements k a 0 (map value ds)) c.deref.ensures.value ∙ sym (ap (λ d. list_applications a k (value d)) c.in-List.is ∙ each_listed-List a k c.in-List.schemas) in
    on_ok_weaker c.plan_elements.result (λ e. e ∙ all) (c.plan_elements.ensures a k same)
