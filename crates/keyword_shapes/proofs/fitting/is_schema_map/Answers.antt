use Rattle.std.proofs.Common.{sym, ap, ◌∙◌, rules}
use Rattle.std.proofs.lemmas.Iterator.Consumers.{YieldsList-from_first}
use Rattle.std.proofs.lemmas.Iterator.Search.{all_from_yields_List}
use borrow.Author.Tests.{tests}
use Rattle.definitions.specs.Shapes.{is_schema, is_schema_map}
use Rattle.json_doc.specs.Docs.{value}
use Rattle.json_doc.specs.Members.{member_view, members_left}
use Rattle.keyword_shapes.proofs.ShapeLists.{is_schema_map-Dict}
use Rattle.keyword_shapes.proofs.fitting.is_schema_map.Goals as goal

pub returns-in-Dict : goal.returns-in-Dict
returns-in-Dict c =
    all_from_yields_List (λ m. is_schema m.1) _ _ _ c.all.ensures.ran (YieldsList-from_first member_view members_left _ c.iter.ensures.all) (λ x b q k. search (rules, tests))
    ∙ sym (ap (λ d. is_schema_map (value d)) c.in-Dict.is ∙ is_schema_map-Dict c.in-Dict.schemas)
