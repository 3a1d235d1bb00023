use Rattle.std.proofs.Common.{◌≡◌, Bor, Contains, IfSome, subst}
use Rattle.definitions.specs.Schemas.{Schema}
use Rattle.linker.specs.LinkedDocuments.{linked_schemas}
use Rattle.linker.specs.ReferenceNumbers.{StandsIn}
use Rattle.linker.specs.declared.linked.Linked.{Linked}
use Rattle.keyword_plans.proofs.followed_references.FollowedReferences.number.Goals as goal

pub returns-in-Some-clause-ok : goal.returns-in-Some-clause-ok
returns-in-Some-clause-ok c = λ s refers.
    let stands =
    subst (λ (l : Bor Linked). (s : Schema) → Contains (linked_schemas l.now) s → s.resource ≡ c.args.resource.now → IfSome c.in_ok-document.field-0 (StandsIn l.now s)) c.args.self.now.same c.in_ok-document.ensures.stands in
    c.reference_number.ensures s (subst (λ o. IfSome o (StandsIn c.args.self.now.linked.now s)) c.in-Some.is (stands s refers.inside refers.resource)) refers.resource refers.has
