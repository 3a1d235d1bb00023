use Rattle.std.proofs.Common.{rules}
use Rattle.std.proofs.lemmas.Iterator.Consumers.{YieldsList-from_first}
use Rattle.std.proofs.lemmas.Iterator.Search.{all_from_yields_List}
use borrow.Author.Tests.{tests}
use Rattle.definitions.specs.Values.{entry}
use Rattle.json_doc.specs.Docs.{value, members_value}
use Rattle.json_doc.specs.Members.{member_view, members_left}
use Rattle.assertions.specs.Dependents.{has_names_if}
use Rattle.assertions.proofs.names.has_dependents_of_members.Goals as goal

pub returns : goal.returns
returns c =
    let x = value c.args.instance.now in
    let ds = members_value c.args.lists.now in
    all_from_yields_List (λ m. has_names_if x (entry m.0 ds)) _ _ _ c.all.ensures.ran (YieldsList-from_first member_view members_left _ c.iter.ensures.all) (λ x b q k. search (rules, tests))
