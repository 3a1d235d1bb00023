use Rattle.requests.specs.Views.{request_view, reply_view}
use Rattle.tenant_documents.specs.Registries.{registry_view}
use Rattle.tenant_documents.proofs.KeptRegistries.{registry_kept}
use Rattle.tenant_hub.proofs.RegisteredDocuments.{still_registered}
use Rattle.tenant_hub.proofs.keyed_registry.KeyedRegistry.answer.Goals as goal

pub invariant_of-self : goal.invariant_of-self
invariant_of-self c = record {
  registered =
      still_registered (registry_view c.args.self.now.registry) (registry_view c.answer_once.new.registry) (request_view c.args.request.now) (reply_view c.answer_once.result)
      (registry_kept c.args.self.now.registry) c.answer_once.ensures.text c.args.self.now.registered c.answer_once.ensures.answer;
  linked = c.answer_once.ensures.linked;
}
