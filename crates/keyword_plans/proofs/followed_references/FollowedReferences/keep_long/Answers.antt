use Rattle.keyword_plans.specs.Followed.{IsFollowed}
use Rattle.keyword_plans.proofs.Kept.{all_inserted}
use Rattle.keyword_plans.proofs.followed_references.FollowedReferences.keep_long.Goals as goal

pub invariant_of-self : goal.invariant_of-self
invariant_of-self c =
    let kept = c.args.self.now in
    record {
      same = kept.same;
      short_right = kept.short_right;
      long_right =
          all_inserted (IsFollowed kept.linked.now) _ c.insert.result kept.long c.insert.new.self c.parts.result c.args.followed c.insert.ensures.entries c.insert.ensures.err
          kept.long_right c.requires;
    }
