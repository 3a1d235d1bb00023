use Rattle.std.proofs.Common.{◌≡◌, None}
use Rattle.std.proofs.Math.Logic.{∥∥₁_elim, ∥∥₁_map}
use Rattle.stored_rows.specs.Rows.{rows_of}
use Rattle.tenant_hub.specs.Hubs.{hub_view}
use Rattle.tenant_hub.proofs.KeptHubs.{hub_bodies, hub_kept}
use Rattle.stored_hub.proofs.StoredRegistries.{found_either, found_only}
use Rattle.stored_hub.proofs.handling.StoredHubHandler.settle.Goals as goal

pub returns-then-not-self-clause-kept : goal.returns-then-not-self-clause-kept
returns-then-not-self-clause-kept g c =
    let s = c.args.self.now in
    λ ms. found_only g.D.DocumentStore.recovers s.store (hub_view s.hub) ms s.distinct (hub_kept s.hub) (hub_bodies s.hub) (s.settled c.if-not-self.true)

pub invariant_of-self : goal.invariant_of-self
invariant_of-self g c =
    let s = c.args.self.now in
    let none : s.behind ≡ None = c.in_default.is in
    let held = ∥∥₁_elim s.stored (g.met.D.DocumentStore.one s.store (rows_of (hub_view s.hub))) (λ h. h none) in
    record {
      distinct = s.distinct;
      stored = ∥∥₁_map s.stored (λ h e. c.in-Ok.ensures.holds (rows_of (hub_view s.hub)) (h e));
      settled = λ e rs may. c.in-Ok.ensures.kept (rows_of (hub_view s.hub)) rs (c.in-Ok.ensures.holds (rows_of (hub_view s.hub)) held) may;
    }

pub returns-in-Ok-clause-kept : goal.returns-in-Ok-clause-kept
returns-in-Ok-clause-kept g c =
    let s = c.args.self.now in
    let none : s.behind ≡ None = c.in_default.is in
    let held = ∥∥₁_elim s.stored (g.met.D.DocumentStore.one s.store (rows_of (hub_view s.hub))) (λ h. h none) in
    λ ms. found_only g.D.DocumentStore.recovers c.commit.new.self (hub_view s.hub) ms s.distinct (hub_kept s.hub) (hub_bodies s.hub)
    (λ rs may. c.in-Ok.ensures.kept (rows_of (hub_view s.hub)) rs (c.in-Ok.ensures.holds (rows_of (hub_view s.hub)) held) may)

pub returns-in-Ok-clause-crash : goal.returns-in-Ok-clause-crash
returns-in-Ok-clause-crash g c =
    let s = c.args.self.now in
    let none : s.behind ≡ None = c.in_default.is in
    let held = ∥∥₁_elim s.stored (g.met.D.DocumentStore.one s.store (rows_of (hub_view s.hub))) (λ h. h none) in
    λ ms. found_either g.D.DocumentStore.recovers s.store c.commit.new.self (hub_view s.hub) ms s.distinct (hub_kept s.hub) (hub_bodies s.hub)
    (λ rs may. c.in-Ok.ensures.crash (rows_of (hub_view s.hub)) rs held may)

pub returns-in-Err-clause-crash : goal.returns-in-Err-clause-crash
returns-in-Err-clause-crash g c =
    let s = c.args.self.now in
    let none : s.behind ≡ None = c.in_default.is in
    let held = ∥∥₁_elim s.stored (g.met.D.DocumentStore.one s.store (rows_of (hub_view s.hub))) (λ h. h none) in
    λ ms. found_either g.D.DocumentStore.recovers s.store c.commit.new.self (hub_view s.hub) ms s.distinct (hub_kept s.hub) (hub_bodies s.hub)
    (λ rs may. c.in-Err.ensures.crash (rows_of (hub_view s.hub)) rs held may)
