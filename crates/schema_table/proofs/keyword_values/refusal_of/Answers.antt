use Rattle.std.proofs.Common.{[], ◌∷◌, subst}
use Rattle.schema_table.specs.Refusals.{Refuses}
use Rattle.schema_table.proofs.Asked.{misstep-shape}
use Rattle.schema_table.proofs.keyword_values.refusal_of.Goals as goal

pub returns-in_default : goal.returns-in_default
returns-in_default c =
    subst (λ m. Refuses c.at.result (m ∷ []))
    (misstep-shape c.args.shape c.args.name.now c.in_default.not-Identifier c.in_default.not-AnchorName c.in_default.not-Dialect) c.at.ensures
