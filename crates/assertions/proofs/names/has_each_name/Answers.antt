use Rattle.std.proofs.Common.{sym, ap, ◌∙◌}
use Rattle.std.specs.List.{list_all}
use Rattle.definitions.specs.Values.{elements}
use Rattle.definitions.specs.Assertions.{has_name}
use Rattle.json_doc.specs.Docs.{value}
use Rattle.assertions.proofs.Elements.{all_elements}
use Rattle.assertions.proofs.names.has_each_name.Goals as goal

pub returns-in-List : goal.returns-in-List
returns-in-List c =
    let test = has_name (value c.args.instance.now) in
    c.has_all.ensures ∙ ap (list_all (λ d. test (value d))) c.deref.ensures.value
    ∙ sym (ap (λ d. list_all test (elements (value d))) c.in-List.is ∙ all_elements test c.in-List.names)
