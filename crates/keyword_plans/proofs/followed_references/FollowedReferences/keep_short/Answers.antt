use Rattle.std.proofs.Common.{Bor, IfSome, None, Some, is_ok, subst, sym}
use Rattle.std.proofs.lemmas.List.Elements.{All-set}
use Rattle.linker.specs.declared.linked.Linked.{Linked}
use Rattle.keyword_plans.specs.Followed.{IsFollowed}
use Rattle.keyword_plans.proofs.Kept.{all_pushed}
use Rattle.keyword_plans.proofs.followed_references.FollowedReferences.keep_short.Goals as goal

pub invariant_of-self : goal.invariant_of-self
invariant_of-self c =
    let l = c.loop-self.self.linked.now in
    record {
      same = c.loop-self.self.same;
      short_right = all_pushed (λ o. IfSome o (IsFollowed l)) (is_ok c.push.result) None c.loop-self.self.short.items c.push.new.self.items c.push.ensures.items c.loop-self.self.short_right tt;
      long_right = c.loop-self.self.long_right;
    }

pub invariant_of-self-2 : goal.invariant_of-self-2
invariant_of-self-2 c =
    let now = c.loop-self.self in
    record {
      same = now.same;
      short_right =
          All-set (λ o. IfSome o (IsFollowed now.linked.now)) now.short.items c.place_of-place.result (Some c.args.followed)
          (subst (λ (l : Bor Linked). IsFollowed l.now c.args.followed) (sym c.loop-self.invariant.linked) c.requires) now.short_right;
      long_right = now.long_right;
    }
