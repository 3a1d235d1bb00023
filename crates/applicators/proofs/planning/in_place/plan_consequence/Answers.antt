use Rattle.std.proofs.Common.{◌∙◌, sym}
use Rattle.std.proofs.lemmas.Result.{on_ok_weaker}
use Rattle.json_doc.specs.Docs.{value}
use Rattle.applicators.proofs.Consequences.{consequence-beside}
use Rattle.applicators.proofs.planning.in_place.plan_consequence.Goals as goal

pub returns-in-Some : goal.returns-in-Some
returns-in-Some c a k o same e =
    let all = sym (consequence-beside a k c.args.wanted (value c.args.schema.now) o c.in-Some.passed (e ∙ c.in-Some.is)) in
    on_ok_weaker c.plan_if.result (λ d. d ∙ all) (c.plan_if.ensures a k same)
