use Rattle.std.proofs.Common.{◌∙◌, ap, sym}
use Rattle.evaluation_context.specs.Standings.{Standing}
use Rattle.evaluator.specs.Rounds.{linked_outcome}
use Rattle.evaluator.proofs.applying.Evaluation.passes.Goals as goal

pub returns-clause-passes : goal.returns-clause-passes
returns-clause-passes c a left names indexes at number passing =
    c.passes.ensures.passes a (linked_outcome c.args.self.now.linked.now left) names indexes
    (record {
      schema = at.schema;
      resource = sym (ap (λ (s : Standing). s.resource) at.under) ∙ sym c.resource.ensures;
      instance = at.instance;
      inside = at.inside;
      scope = at.scope;
    })
    c.args.self.now.searched at.valued at.knows.containing number passing
