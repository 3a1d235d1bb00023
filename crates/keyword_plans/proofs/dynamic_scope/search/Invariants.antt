use Rattle.std.proofs.Common.{◌≡◌, ◌<◌, [], ℕ, false, get_or, map}
use Rattle.linker.specs.DynamicTargets.{is_anchored}
use Rattle.linker.specs.LinkedDocuments.{linked_schemas}
use Rattle.keyword_plans.specs.FollowedIn.{followed_in}
use Rattle.keyword_plans.specs.LinkedResources.{HasResource}
use Rattle.keyword_plans.proofs.dynamic_scope.search.Given as goal

-- none of those before has the anchor
abbrev pub invariant-loop-passed : goal.invariant-loop-passed
invariant-loop-passed l =
    record {
      linked : followed_in l.references ≡ followed_in l.fn.references;
      before : (i : ℕ) → i < l.passed → let uri = get_or (map (λ u. u.now) l.uris) i [] in
          HasResource (followed_in l.fn.references).now uri → is_anchored (linked_schemas (followed_in l.fn.references).now) l.name uri ≡ false;
    }
