use Rattle.std.proofs.Common.{decimal, sym, ap, ap₂, ◌∙◌}
use Rattle.definitions.specs.Values.{same_text}
use Rattle.keywords.specs.Rows.{row_of}
use Rattle.lemmas.proofs.Texts.{same_text_turned}
use Rattle.locations.specs.Steps.{token}
use Rattle.locations.proofs.sameness.same_step.Goals as goal

pub returns-in-Keyword-second : goal.returns-in-Keyword-second
returns-in-Keyword-second c =
    let index = decimal c.in-Index.index in
    c.is_index-in-Keyword-second.ensures
    ∙ ap (λ t. same_text t index) c.name.ensures
    ∙ same_text_turned (row_of c.in-Keyword-second.keyword).name index
    ∙ ap₂ (λ s t. same_text (token s) (token t)) (sym c.in-Index.is) (sym c.in-Keyword-second.is)
