use Rattle.tenant_hub.proofs.keyed_registry.KeyedRegistry.unlink.Goals as goal

pub invariant_of-self : goal.invariant_of-self
invariant_of-self c = record { registered = c.args.self.now.registered; linked = c.clear.ensures _ }
