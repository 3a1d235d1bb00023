use Rattle.std.proofs.Common.{◌<◌, length, subst, sym, ◌∙◌}
use Rattle.std.proofs.lemmas.List.Elements.{All-rest}
use Rattle.std.specs.List.{All}
use Rattle.basic_output.proofs.units.Units.joined_len.Goals as goal

pub texts_len-requires-clause-later : goal.texts_len-requires-clause-later
texts_len-requires-clause-later c =
    let self = c.args.self.now in
    subst (λ ss. All (λ i. i < length ss) c.in-Some.rest.now) (sym c.spans.ensures)
    (All-rest (λ i. i < length self.spans.items) _ c.in-Some.rest.now self.order.items (sym c.order.ensures.value ∙ c.in-Some.ensures.cases.0) self.within)
