use Rattle.std.proofs.Common.{◌≡◌, Bor, IfOk, option_map, subst}
use Rattle.definitions.specs.Targets.{schema_with_dynamic_anchor}
use Rattle.linker.specs.LinkedDocuments.{linked_schemas}
use Rattle.linker.specs.declared.linked.Linked.{Linked}
use Rattle.keyword_plans.specs.Followed.{target_view}
use Rattle.keyword_plans.specs.LinkedResources.{HasAnchor, HasResource}
use Rattle.keyword_plans.proofs.followed_references.FollowedReferences.anchored.Goals as goal

pub returns-clause-ok : goal.returns-clause-ok
returns-clause-ok c =
    subst (λ (l : Bor Linked). HasResource l.now c.args.uri.now → HasAnchor l.now c.args.name.now
    → IfOk c.anchored.result (λ t. option_map target_view t ≡ schema_with_dynamic_anchor (linked_schemas l.now) c.args.uri.now c.args.name.now)) c.args.self.now.same c.anchored.ensures.ok
