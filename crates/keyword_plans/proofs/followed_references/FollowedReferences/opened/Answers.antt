use Rattle.std.proofs.Common.{◌≡◌, Bor, Contains, IfOk, subst}
use Rattle.definitions.specs.Schemas.{Schema}
use Rattle.linker.specs.LinkedDocuments.{linked_schemas}
use Rattle.linker.specs.declared.linked.Linked.{Linked}
use Rattle.linker.specs.OpenedSchemas.{Opens}
use Rattle.keyword_plans.proofs.followed_references.FollowedReferences.opened.Goals as goal

pub returns-in-None-clause-ok : goal.returns-in-None-clause-ok
returns-in-None-clause-ok c =
    subst (λ (l : Bor Linked). (p s : Schema) → Contains (linked_schemas l.now) p → p.resource ≡ c.args.around.now → Opens l.now s c.args.around.now c.args.id.now
    → IfOk c.opened.result (λ uri. uri.now ≡ s.resource)) c.args.self.now.same c.opened.ensures.ok
