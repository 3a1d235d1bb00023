use Rattle.std.proofs.Common.{◌∙◌, sym, ap, map}
use Rattle.definitions.specs.Values.{elements}
use Rattle.json_doc.specs.Docs.{value}
use Rattle.applicators.proofs.subject.elements_of.Goals as goal
use Rattle.json_doc.proofs.Views.{elements-List}

pub returns-in-List : goal.returns-in-List
returns-in-List c = ap (map value) c.deref.ensures.value ∙ sym (ap (λ d. elements (value d)) c.in-List.is ∙ elements-List c.in-List.items)
