use Rattle.std.proofs.Common.{sym, ap, ◌∙◌, arith}
use Rattle.definitions.specs.Assertions.{is_at_least, on_elements}
use Rattle.json_doc.specs.Docs.{value}
use Rattle.assertions.proofs.Elements.{on_elements-List}
use Rattle.assertions.proofs.lengths.has_elements_at_least.Goals as goal

pub returns-in-List : goal.returns-in-List
returns-in-List c =
    let test = is_at_least (value c.args.limit.now) in
    c.is_at_least.ensures ∙ ap test (omega (arith, c.len.ensures, c.in-List.items.ok.0))
    ∙ sym (ap (λ d. on_elements test (value d)) c.in-List.is ∙ on_elements-List test c.in-List.items)
