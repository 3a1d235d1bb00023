use Rattle.std.proofs.Common.{◌+◌, is_ok, map, arith}
use Rattle.std.proofs.Math.Nat.{mod-lt}
use Rattle.std.proofs.lemmas.List.Elements.{All-set}
use Rattle.keyword_plans.specs.FollowedIn.{followed_in}
use Rattle.keyword_plans.specs.Searched.{IsSearched}
use Rattle.keyword_plans.proofs.Kept.{all_pushed}
use Rattle.keyword_plans.proofs.dynamic_scope.DynamicScope.keep.Goals as goal

pub invariant_of-self : goal.invariant_of-self
invariant_of-self c =
    let now = c.args.self.now in
    record {
      within = now.within;
      right = All-set (IsSearched (followed_in now.references).now (map (λ uri. uri.now) now.uris.items)) now.searched.items c.in-Some.at c.args.searched c.requires now.right;
    }

pub invariant_of-self-then-len-lt-KEPT_ANCHORS : goal.invariant_of-self-then-len-lt-KEPT_ANCHORS
invariant_of-self-then-len-lt-KEPT_ANCHORS c =
    let now = c.args.self.now in
    record {
      within = now.within;
      right =
          all_pushed (IsSearched (followed_in now.references).now (map (λ uri. uri.now) now.uris.items)) (is_ok c.push.result) c.args.searched now.searched.items c.push.new.self.items
          c.push.ensures.items now.right c.requires;
    }

pub invariant_of-self-else-len-lt-KEPT_ANCHORS : goal.invariant_of-self-else-len-lt-KEPT_ANCHORS
invariant_of-self-else-len-lt-KEPT_ANCHORS c =
    let now = c.args.self.now in
    record {
      within = mod-lt (now.oldest + 1) (omega arith);
      right = All-set (IsSearched (followed_in now.references).now (map (λ uri. uri.now) now.uris.items)) now.searched.items now.oldest c.args.searched c.requires now.right;
    }
