use Rattle.std.proofs.Common.{sym, ap, ◌∙◌}
use Rattle.std.specs.List.{list_all}
use Rattle.definitions.specs.Values.{is_string}
use Rattle.definitions.specs.Shapes.{is_text_list}
use Rattle.json_doc.specs.Docs.{value}
use Rattle.keyword_shapes.proofs.ShapeLists.{is_text_list-List}
use Rattle.keyword_shapes.proofs.fitting.is_text_list.Goals as goal

pub returns-in-List : goal.returns-in-List
returns-in-List c =
    c.all_texts.ensures ∙ ap (list_all (λ d. is_string (value d))) c.deref.ensures.value
    ∙ sym (ap (λ d. is_text_list (value d)) c.in-List.is ∙ is_text_list-List c.in-List.texts)
