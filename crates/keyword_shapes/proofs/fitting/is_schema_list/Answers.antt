use Rattle.std.proofs.Common.{sym, ap, ◌∙◌, nat_lt, length, ◌&&◌}
use Rattle.std.specs.List.{list_all}
use Rattle.definitions.specs.Shapes.{is_schema, is_schema_list}
use Rattle.json_doc.specs.Docs.{value}
use Rattle.keyword_shapes.proofs.ShapeLists.{is_schema_list-List}
use Rattle.keyword_shapes.proofs.fitting.is_schema_list.Goals as goal

pub returns-in-List : goal.returns-in-List
returns-in-List c =
    c.is_list_of_schemas.ensures
    ∙ ap (λ ds. nat_lt 0 (length ds) && list_all (λ d. is_schema (value d)) ds) c.deref.ensures.value
    ∙ sym (ap (λ d. is_schema_list (value d)) c.in-List.is ∙ is_schema_list-List c.in-List.schemas)
