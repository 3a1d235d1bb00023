use Rattle.std.proofs.Common.{◌∙◌, sym, ap, drop}
use Rattle.std.proofs.lemmas.List.{drop-map}
use Rattle.std.proofs.lemmas.Result.{on_ok_weaker}
use Rattle.definitions.specs.Values.{elements}
use Rattle.definitions.specs.Applied.{at_items}
use Rattle.json_doc.specs.Docs.{value}
use Rattle.applicators.proofs.planning.items.plan_items.Goals as goal

pub returns : goal.returns
returns c a k same =
    let all = ap (at_items a k (value c.args.schema.now) c.args.start)
    (sym (drop-map value c.args.start c.elements.result.now) ∙ ap (drop c.args.start) (c.elements.ensures ∙ ap elements (sym same))) in
    on_ok_weaker c.plan_from.result (λ e. e ∙ all) (c.plan_from.ensures a k)
