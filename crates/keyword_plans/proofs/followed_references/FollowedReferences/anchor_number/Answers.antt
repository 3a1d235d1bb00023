use Rattle.std.proofs.Common.{Bor, IfOk, subst}
use Rattle.linker.specs.NumberedTexts.{texts_of_linked}
use Rattle.linker.specs.declared.linked.Linked.{Linked}
use Rattle.keyword_plans.specs.LinkedResources.{HasAnchor, HasNumber}
use Rattle.keyword_plans.proofs.followed_references.FollowedReferences.anchor_number.Goals as goal

pub returns-clause-ok : goal.returns-clause-ok
returns-clause-ok c =
    subst (λ (l : Bor Linked). HasAnchor l.now c.args.name.now → IfOk c.anchor_number.result (HasNumber (texts_of_linked l.now) c.args.name.now)) c.args.self.now.same c.anchor_number.ensures.ok
