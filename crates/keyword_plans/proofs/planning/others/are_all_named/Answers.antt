use Rattle.std.proofs.Common.{◌≡◌, ◌∙◌, [], ap, arith, sym}
use Rattle.std.proofs.lemmas.Bool.{leb-true}
use Rattle.definitions.specs.Values.{members}
use Rattle.json_doc.specs.Docs.{members_value}
use Rattle.keyword_plans.specs.Applications.{planned_others}
use Rattle.keyword_plans.proofs.AllNamed.{none_left}
use Rattle.keyword_plans.proofs.planning.others.are_all_named.Goals as goal

pub returns-in-Some : goal.returns-in-Some
returns-in-Some c l a k v inside same most all =
    let mine : members a.instance ≡ members_value c.in-Some.members.now = ap members same ∙ sym c.in-Some.ensures in
    let enough = leb-true c.len.result c.args.named all in
    ap (planned_others l k a v) mine ∙ none_left l k a v (members_value c.in-Some.members.now) c.args.named inside mine c.iter.ensures.ordered most (omega (arith, enough, c.len.ensures))

pub returns-in-None : goal.returns-in-None
returns-in-None c l a k v inside same most all =
    let none : members a.instance ≡ [] = ap members same ∙ sym c.in-None.ensures in
    ap (planned_others l k a v) none
