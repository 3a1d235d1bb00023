use Rattle.std.proofs.Common.{sym, ap, ◌∙◌, nat_lt, length, ◌&&◌}
use Rattle.std.specs.List.{list_all}
use Rattle.definitions.specs.Shapes.{is_type_name, are_type_names}
use Rattle.json_doc.specs.Docs.{value}
use Rattle.keyword_shapes.proofs.ShapeLists.{are_type_names-List}
use Rattle.keyword_shapes.proofs.fitting.are_type_names.Goals as goal

pub returns-in-List : goal.returns-in-List
returns-in-List c =
    c.is_list_of_type_names.ensures
    ∙ ap (λ ds. nat_lt 0 (length ds) && list_all (λ d. is_type_name (value d)) ds) c.deref.ensures.value
    ∙ sym (ap (λ d. are_type_names (value d)) c.in-List.is ∙ are_type_names-List c.in-List.names)
