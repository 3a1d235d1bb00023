use Rattle.std.proofs.Common.{sym, ap, ◌∙◌}
use Rattle.locations.specs.Steps.{token}
use Rattle.evaluation_context.specs.Ends.{tells_end, text_end}
use Rattle.evaluation_context.proofs.EndLaws.{tells_own}
use Rattle.evaluation_context.proofs.ends.step_end.Goals as goal

pub returns-in-Name : goal.returns-in-Name
returns-in-Name c = tells_own c.text_end.result _ (c.text_end.ensures ∙ ap (λ s. text_end (token s)) (sym c.in-Name.is))

pub returns-in-Index : goal.returns-in-Index
returns-in-Index c = ap (λ s. tells_end c.index_end.result (text_end (token s))) c.in-Index.is ∙ c.index_end.ensures

pub returns-in-Keyword : goal.returns-in-Keyword
returns-in-Keyword c =
    tells_own c.text_end-in-Keyword.result _ (c.text_end-in-Keyword.ensures ∙ ap text_end c.name.ensures ∙ ap (λ s. text_end (token s)) (sym c.in-Keyword.is))
