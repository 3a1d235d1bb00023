use Rattle.std.proofs.Common.{ap, ◌∙◌}
use Rattle.definitions.specs.Keywords.{Keyword}
use Rattle.assertions.proofs.assertion.shape_of.Goals as goal

pub returns : goal.returns
returns c = c.shape.ensures ∙ ap (λ (k : Keyword). k.shape) c.keyword.ensures
