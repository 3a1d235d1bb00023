use Rattle.std.proofs.lemmas.Result.{IfOk-weaker}
use Rattle.linker.proofs.StandingSchemas.{held, number_there}
use Rattle.keyword_plans.proofs.compared_resources.ComparedResources.document.Goals as goal

pub returns-in-None-clause-stands : goal.returns-in-None-clause-stands
returns-in-None-clause-stands c = λ s inside resource.
    IfOk-weaker c.document_of_several.result _ _ (λ n is. held c.args.self.now.linked.now s c.args.uri.now n is inside resource) (c.document_of_several.ensures.ok s inside resource)

pub returns-in-None-clause-there : goal.returns-in-None-clause-there
returns-in-None-clause-there c = λ s inside resource.
    IfOk-weaker c.document_of_several.result _ _ (λ n is. number_there c.args.self.now.linked.now s c.args.uri.now n is inside resource) (c.document_of_several.ensures.ok s inside resource)
