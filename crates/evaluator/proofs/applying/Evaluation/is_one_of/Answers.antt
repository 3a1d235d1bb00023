use Rattle.std.proofs.Common.{◌≡◌, IfOk, Contains, sym, ap, ap₂, subst, ◌∙◌}
use Rattle.std.specs.Borrow.{Bor}
use Rattle.definitions.specs.Assertions.{enum_of, holds}
use Rattle.definitions.specs.Applied.{Application}
use Rattle.definitions.specs.Schemas.{identity}
use Rattle.definitions.specs.Values.{Value}
use Rattle.json_doc.specs.Docs.{value}
use Rattle.linker.specs.LinkedDocuments.{linked_schemas}
use Rattle.linker.specs.declared.linked.Linked.{Linked}
use Rattle.locations.specs.Steps.{tokens}
use Rattle.evaluator.proofs.applying.Evaluation.is_one_of.Goals as goal

pub returns-clause-met : goal.returns-clause-met
returns-clause-met c a at got =
    let same : identity a.schema ≡ (c.resource.result.now, tokens c.deref.result.now) =
    ap₂ (λ r p. (r, p)) (ap (λ (b : Application). b.schema.resource) at.there ∙ sym c.resource.ensures)
    (ap (λ (b : Application). b.schema.pointer) at.there ∙ sym (ap tokens c.deref.ensures.value ∙ c.in_ok-pointer.ensures)) in
    let inside = subst (λ (l : Bor Linked). Contains (linked_schemas l.now) a.schema) (sym c.args.self.now.enumerated) at.inside in
    subst (λ (i : Value). IfOk c.holds.result (λ b. b ≡ holds enum_of (value c.args.values.now) i)) (sym (ap (λ (b : Application). b.instance) at.there))
    (c.holds.ensures.ok a.schema inside same got)
