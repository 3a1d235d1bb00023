use Rattle.std.proofs.Common.{true≢false, is_some, sym, ap, ◌∙◌, subst}
use Rattle.std.proofs.Math.Logic.{∥∥₁_map}
use Rattle.definitions.specs.Patterns.{regular_search}
use Rattle.requests.specs.Views.{request_view, reply_view}
use Rattle.stored_rows.proofs.RestoredRows.{calls_keep}
use Rattle.tenant_hub.specs.Hubs.{hub_view}
use Rattle.tenant_hub.proofs.KeptHubs.{hub_kept}
use Rattle.stored_hub.proofs.StoredRegistries.{distinct_after, found_before, same_rows_after, stored_after}
use Rattle.stored_hub.proofs.handling.StoredHubHandler.apply.Goals as goal

pub invariant_of-self : goal.invariant_of-self
invariant_of-self g c =
    let s = c.args.self.now in
    let ks = hub_view s.hub in
    let ls = hub_view c.apply-reply.new.self in
    let q = request_view c.args.request.now in
    let r = reply_view c.apply-reply.result in
    record {
      distinct = distinct_after ks ls c.args.key.now q r s.distinct c.apply-reply.ensures.answer;
      stored = ∥∥₁_map s.stored (stored_after g.D.DocumentStore.holds s.store c.write_change.new.store s.behind s.behind ks ls c.args.key.now q r s.distinct (hub_kept s.hub)
          c.apply-reply.ensures.answer (λ e. e) (λ e. c.in-Ok.ensures.ok));
      settled = λ e. cc;
    }

pub invariant_of-self-in-Err : goal.invariant_of-self-in-Err
invariant_of-self-in-Err g c =
    let s = c.args.self.now in
    record {
      distinct = distinct_after (hub_view s.hub) (hub_view c.apply-reply.new.self) c.args.key.now (request_view c.args.request.now) (reply_view c.apply-reply.result) s.distinct c.apply-reply.ensures.answer;
      stored = ∣ (λ e. cc) ∣₁;
      settled = λ e. cc;
    }

pub invariant_of-self-else-is_none : goal.invariant_of-self-else-is_none
invariant_of-self-else-is_none g c =
    let s = c.args.self.now in
    record {
      distinct = distinct_after (hub_view s.hub) (hub_view c.apply-reply.new.self) c.args.key.now (request_view c.args.request.now) (reply_view c.apply-reply.result) s.distinct c.apply-reply.ensures.answer;
      stored = ∣ (λ e. absurd (true≢false (sym c.if-is_none.ensures ∙ ap is_some e))) ∣₁;
      settled = λ e. cc;
    }

pub invariant_of-self-else-is_change : goal.invariant_of-self-else-is_change
invariant_of-self-else-is_change g c =
    let s = c.args.self.now in
    let ks = hub_view s.hub in
    let ls = hub_view c.apply-reply.new.self in
    let q = request_view c.args.request.now in
    let r = reply_view c.apply-reply.result in
    let same = same_rows_after ks ls c.args.key.now q r s.distinct (hub_kept s.hub) c.apply-reply.ensures.answer (sym c.is_change.ensures ∙ c.if-is_change.false) in
    record {
      distinct = distinct_after ks ls c.args.key.now q r s.distinct c.apply-reply.ensures.answer;
      stored = ∥∥₁_map s.stored (λ h e. subst (g.D.DocumentStore.holds s.store) (sym same) (h e));
      settled = λ e rs may. s.settled e rs may ∙ sym same;
    }

pub returns-in-Ok-clause-found : goal.returns-in-Ok-clause-found
returns-in-Ok-clause-found g c =
    let s = c.args.self.now in
    let ks = hub_view s.hub in
    let ls = hub_view c.apply-reply.new.self in
    λ ms. found_before g.D.DocumentStore.recovers s.store c.write_change.new.store ks ls ms
    (calls_keep regular_search ks ls (c.args.key.now, request_view c.args.request.now) (reply_view c.apply-reply.result) c.apply-reply.ensures.answer) c.in-Ok.ensures.recovers

pub returns-in-Err-clause-found : goal.returns-in-Err-clause-found
returns-in-Err-clause-found g c =
    let s = c.args.self.now in
    let ks = hub_view s.hub in
    let ls = hub_view c.apply-reply.new.self in
    λ ms. found_before g.D.DocumentStore.recovers s.store c.write_change.new.store ks ls ms
    (calls_keep regular_search ks ls (c.args.key.now, request_view c.args.request.now) (reply_view c.apply-reply.result) c.apply-reply.ensures.answer) c.in-Err.ensures.recovers

pub returns-else-is_none-clause-found : goal.returns-else-is_none-clause-found
returns-else-is_none-clause-found g c =
    let s = c.args.self.now in
    let ks = hub_view s.hub in
    let ls = hub_view c.apply-reply.new.self in
    λ ms. found_before g.D.DocumentStore.recovers s.store s.store ks ls ms
    (calls_keep regular_search ks ls (c.args.key.now, request_view c.args.request.now) (reply_view c.apply-reply.result) c.apply-reply.ensures.answer) (λ rs may. may)

pub returns-else-is_change-clause-found : goal.returns-else-is_change-clause-found
returns-else-is_change-clause-found g c =
    let s = c.args.self.now in
    let ks = hub_view s.hub in
    let ls = hub_view c.apply-reply.new.self in
    λ ms. found_before g.D.DocumentStore.recovers s.store s.store ks ls ms
    (calls_keep regular_search ks ls (c.args.key.now, request_view c.args.request.now) (reply_view c.apply-reply.result) c.apply-reply.ensures.answer) (λ rs may. may)
