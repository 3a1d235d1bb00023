use Rattle.std.proofs.Common.{sym, ap, subst, ◌∙◌}
use Rattle.linker.specs.OpenedSchemas.{Opens}
use Rattle.keyword_plans.specs.ScopeViews.{scope_documents}
use Rattle.evaluation_context.specs.Frames.{context_view}
use Rattle.evaluation_context.proofs.context.Context.resource_opened.Goals as goal

pub returns-clause-ok : goal.returns-clause-ok
returns-clause-ok c = λ parent s known resource opens.
    let here = sym c.resource-around.ensures in
    c.resource_opened.ensures.ok parent s known (resource ∙ here) (subst (λ uri. Opens (scope_documents c.args.self.now.scope).now s uri c.args.id.now) here opens)

pub returns-clause-same : goal.returns-clause-same
unfolding context_view
returns-clause-same c = ap (λ uris. record (context_view c.args.self.now) { scope = uris }) c.resource_opened.ensures.uris
