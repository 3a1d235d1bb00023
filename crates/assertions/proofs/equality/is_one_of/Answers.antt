use Rattle.std.proofs.Common.{sym, ap, ◌∙◌}
use Rattle.std.specs.List.{list_any}
use Rattle.definitions.specs.Values.{same}
use Rattle.definitions.specs.Assertions.{is_one_of}
use Rattle.json_doc.specs.Docs.{value}
use Rattle.assertions.proofs.Elements.{is_one_of-List}
use Rattle.assertions.proofs.equality.is_one_of.Goals as goal

pub returns-in-List : goal.returns-in-List
returns-in-List c =
    let x = value c.args.instance.now in
    c.has_same.ensures ∙ ap (list_any (λ d. same x (value d))) c.deref.ensures.value
    ∙ sym (ap (λ d. is_one_of x (value d)) c.in-List.is ∙ is_one_of-List x c.in-List.values)
