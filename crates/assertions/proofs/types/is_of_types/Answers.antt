use Rattle.std.proofs.Common.{sym, ap, ◌∙◌}
use Rattle.std.specs.List.{list_any}
use Rattle.definitions.specs.Assertions.{is_of_type, is_of_types}
use Rattle.json_doc.specs.Docs.{value}
use Rattle.assertions.proofs.Elements.{is_of_types-List}
use Rattle.assertions.proofs.types.is_of_types.Goals as goal

pub returns-in-List : goal.returns-in-List
returns-in-List c =
    let x = value c.args.instance.now in
    c.is_of_one.ensures ∙ ap (list_any (λ d. is_of_type x (value d))) c.deref.ensures.value
    ∙ sym (ap (λ d. is_of_types x (value d)) c.in-List.is ∙ is_of_types-List x c.in-List.types)
