use Rattle.std.proofs.Common.{sym, ap, ◌∙◌, rules}
use Rattle.std.proofs.lemmas.Iterator.Consumers.{YieldsList-from_first}
use Rattle.std.proofs.lemmas.Iterator.Search.{all_from_yields_List}
use borrow.Author.Tests.{tests}
use Rattle.definitions.specs.Shapes.{is_text_list, are_text_lists}
use Rattle.json_doc.specs.Docs.{value}
use Rattle.json_doc.specs.Members.{member_view, members_left}
use Rattle.keyword_shapes.proofs.ShapeLists.{are_text_lists-Dict}
use Rattle.keyword_shapes.proofs.fitting.are_text_lists.Goals as goal

pub returns-in-Dict : goal.returns-in-Dict
returns-in-Dict c =
    all_from_yields_List (λ m. is_text_list m.1) _ _ _ c.all.ensures.ran (YieldsList-from_first member_view members_left _ c.iter.ensures.all) (λ x b q k. search (rules, tests))
    ∙ sym (ap (λ d. are_text_lists (value d)) c.in-Dict.is ∙ are_text_lists-Dict c.in-Dict.lists)
