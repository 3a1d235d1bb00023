use Rattle.std.proofs.Common.{◌∙◌, sym, ap, subst}
use Rattle.linker.specs.ReferenceNumbers.{reference_pair}
use Rattle.keyword_plans.specs.Followed.{IsFollowed}
use Rattle.keyword_plans.specs.FollowedIn.{followed_in}
use Rattle.keyword_plans.proofs.followed_references.FollowedReferences.find_long.Goals as goal

pub returns-in-Some-clause-named : goal.returns-in-Some-clause-named
returns-in-Some-clause-named c resource text pair =
    let l = (followed_in c.args.self.now).now in
    let f = c.in-Some.followed.now in
    let among = c.in-Some.ensures.member in
    let kept = subst (IsFollowed l) (sym among.1.1) (c.args.self.now.long_right among.0 f among.1.0) in
    kept.named resource text (ap (reference_pair l) (c.is.ensures c.if-is.true) ∙ pair)

pub returns-in-Some-clause-anchored : goal.returns-in-Some-clause-anchored
returns-in-Some-clause-anchored c =
    let l = (followed_in c.args.self.now).now in
    let f = c.in-Some.followed.now in
    let among = c.in-Some.ensures.member in
    let kept = subst (IsFollowed l) (sym among.1.1) (c.args.self.now.long_right among.0 f among.1.0) in
    kept.anchored
