use Rattle.std.proofs.Common.{rules, ◌||◌, not, is_some}
use Rattle.std.proofs.lemmas.Iterator.Consumers.{YieldsList-from_first}
use Rattle.std.proofs.lemmas.Iterator.Search.{all_from_yields_List}
use borrow.Author.Tests.{tests}
use Rattle.definitions.specs.Values.{get}
use Rattle.definitions.specs.Assertions.{has_names}
use Rattle.json_doc.specs.Docs.{value}
use Rattle.json_doc.specs.Members.{member_view, members_left}
use Rattle.assertions.proofs.names.has_dependents_along_lists.Goals as goal

pub returns : goal.returns
returns c =
    let x = value c.args.instance.now in
    all_from_yields_List (λ m. not (is_some (get m.0 x)) || has_names x m.1) _ _ _ c.all.ensures.ran (YieldsList-from_first member_view members_left _ c.iter.ensures.all) (λ x b q k. search (rules, tests))
