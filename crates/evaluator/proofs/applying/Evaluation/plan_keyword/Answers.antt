use Rattle.std.proofs.Common.{◌≡◌, ◌∙◌, true, ap, sym, map, drop}
use Rattle.definitions.specs.Applied.{Application}
use Rattle.definitions.specs.Keywords.{looks_at_evaluated}
use Rattle.json_doc.specs.NamedMembers.{name_text}
use Rattle.json_doc.specs.Docs.{value}
use Rattle.keywords.specs.Rows.{row_of}
use Rattle.applicators.specs.Plans.{planned_view}
use Rattle.keyword_plans.specs.ObjectApplications.{linked_rules}
use Rattle.evaluation_context.specs.Frames.{context_view, frame_standing}
use Rattle.evaluation_log.specs.Logs.{log_view}
use Rattle.evaluator.specs.Rounds.{linked_outcome}
use Rattle.evaluator.proofs.AloneLaws.{same_looked}
use Rattle.evaluator.proofs.SettlingLaws.{plan_of}
use Rattle.evaluator.proofs.applying.Evaluation.plan_keyword.Goals as goal

pub returns-clause-planned : goal.returns-clause-planned
unfolding log_view context_view frame_standing
returns-clause-planned c a left used =
    let at = used.schema_use in
    let l = c.args.self.now.linked.now in
    let row = row_of c.args.keyword in
    let names = λ (looks : looks_at_evaluated row.meaning ≡ true). c.evaluated_for.ensures.names looks ∙ ap (λ ns. drop c.args.schema_use.now.before.names (map name_text ns)) c.deref.ensures.value in
    let indexes = λ (looks : looks_at_evaluated row.meaning ≡ true). c.evaluated_for.ensures.indexes looks ∙ ap (λ is. drop c.args.schema_use.now.before.indexes is) c.deref-2.ensures.value in
    plan_of l left c.args.keyword a _ _ _ _ at.inside at.scope used.valued
    (c.in_ok-plan.ensures.ok a (linked_outcome l left)
    (record {
      schema = ap (λ (b : Application). b.schema.value) at.there;
      resource = ap (λ (b : Application). b.schema.resource) at.there ∙ sym c.resource.ensures;
      instance = ap (λ (b : Application). b.instance) at.there;
      inside = at.inside;
      scope = at.scope;
    })
    c.args.self.now.followed (ap (λ (b : Application). b.scope) at.there) c.args.self.now.searched used.valued used.knows.condition
    ∙ same_looked (linked_rules l) (linked_outcome l left) _ _ _ _ a row.name row.meaning (value c.args.keyword_value.now) names indexes)

pub returns-clause-back : goal.returns-clause-back
unfolding context_view
returns-clause-back c = ap (λ uris. record (context_view c.args.self.now.context) { scope = uris }) c.plan.ensures.uris

pub returns-in_err-plan-clause-back : goal.returns-in_err-plan-clause-back
unfolding context_view
returns-in_err-plan-clause-back c = ap (λ uris. record (context_view c.args.self.now.context) { scope = uris }) c.plan.ensures.uris

pub returns-then-surely_applies_nothing-clause-planned : goal.returns-then-surely_applies_nothing-clause-planned
returns-then-surely_applies_nothing-clause-planned c a left used =
    let at = used.schema_use in
    let l = c.args.self.now.linked.now in
    plan_of l left c.args.keyword a _ _ _ _ at.inside at.scope used.valued
    (ap (map (planned_view (row_of c.args.keyword).name a)) c.new.ensures.items
    ∙ sym (c.surely_applies_nothing.ensures l a (linked_outcome l left) _ _ (value c.args.keyword_value.now) at.inside (ap (λ (b : Application). b.instance) at.there) used.knows.named c.if-surely_applies_nothing.true))
