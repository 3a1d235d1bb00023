use Rattle.std.proofs.Common.{sym, subst}
use Rattle.stored_rows.specs.Restoring.{HaveDistinctDigests}
use Rattle.stored_hub.specs.Storing.{Finds, IsSettled, IsStored}
use Rattle.stored_hub.proofs.handling.StoredHubHandler.reuse.Goals as goal

pub invariant_of-self : goal.invariant_of-self
invariant_of-self g c =
    let s = c.args.self.now in
    let same = sym c.reuse.ensures.registries in
    record {
      distinct = subst HaveDistinctDigests same s.distinct;
      stored = subst (λ ks. ∥ IsStored g.D.DocumentStore.holds s.store s.behind ks ∥₁) same s.stored;
      settled = subst (IsSettled g.D.DocumentStore.recovers s.store s.is_dirty) same s.settled;
    }

pub returns-clause-found : goal.returns-clause-found
returns-clause-found g c = λ ms. subst (λ ks. Finds g.D.DocumentStore.recovers c.args.self.now.store ks ms) c.reuse.ensures.registries
