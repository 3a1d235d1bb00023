use Rattle.std.proofs.lemmas.Str.{is_utf8-from_IsUtf8}
use Rattle.requests.specs.Views.{reply_view}
use Rattle.tenant_documents.specs.Registries.{registry_view}
use Rattle.tenant_hub.proofs.RegisteredDocuments.{restored_registered}
use Rattle.tenant_hub.proofs.keyed_registry.KeyedRegistry.restore.Goals as goal

pub invariant_of-self : goal.invariant_of-self
invariant_of-self c = record {
  registered =
      restored_registered (registry_view c.args.self.now.registry) (registry_view c.restore_into.new.registry) c.args.base.now c.args.text.now (reply_view c.restore_into.result)
      (is_utf8-from_IsUtf8 c.args.base.now c.utf8.base) c.args.self.now.registered c.restore_into.ensures;
  linked = c.clear.ensures _;
}
