use Rattle.std.proofs.Common.{map, Some, sym, ap, ◌∙◌}
use Rattle.json_doc.specs.Docs.{value}
use Rattle.json_doc.specs.Kinds.{as_elements}
use Rattle.json_doc.proofs.Views.{value-List, elements_list-to_elements}
use Rattle.json_doc.proofs.doc.Doc.as_list.Goals as goal

pub returns-in-List : goal.returns-in-List
returns-in-List c =
    ap Some (ap (map value) c.as_slice.ensures.value ∙ sym (elements_list-to_elements (map value c.in-List.items.items)))
    ∙ ap as_elements (sym (ap value c.in-List.is ∙ value-List c.in-List.items))
