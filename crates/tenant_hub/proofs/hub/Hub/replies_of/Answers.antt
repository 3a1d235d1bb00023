use Rattle.std.proofs.Common.{◌≡◌, ◌+◌, ◌∷◌, ◌++◌, [], refl, ap, arith, map, take, subst, ◌∙◌}
use Rattle.std.proofs.lemmas.List.{take_all, map-append}
use Rattle.lemmas.proofs.Lists.{map-take_more}
use Rattle.definitions.specs.Patterns.{regular_search}
use Rattle.definitions.specs.Services.{CallCourse, IsCallAnswer}
use Rattle.definitions.specs.Values.{Text}
use Rattle.requests.specs.Views.{request_view, reply_view}
use Rattle.tenant_hub.specs.Calls.{call_view}
use Rattle.tenant_hub.specs.Hubs.{hub_view}
use Rattle.tenant_hub.proofs.Courses.{begins}
use Rattle.tenant_hub.proofs.hub.Hub.replies_of.Goals as goal

pub loop-call-init : goal.loop-call-init
loop-call-init c = record {
  course = begins regular_search (hub_view c.args.self.now) call_view reply_view _ _ refl c.in_ok-replies.ensures.items;
  len = c.in_ok-replies.ensures.len;
  room = omega (arith, c.in_ok-replies.ensures.capacity);
}

pub loop-call-preserved : goal.loop-call-preserved
loop-call-preserved c =
    let i = c.loop-call.call-index in
    let calls = c.args.calls.now in
    let it = c.call-item.result in
    let inv = c.loop-call.invariant in
    let before = hub_view c.loop-call.self in
    let after = hub_view c.apply-reply.new.self in
    let r = reply_view c.apply-reply.result in
    let answer : IsCallAnswer regular_search before (call_view it) r after =
    subst (λ (key : Text). IsCallAnswer regular_search before (key, request_view it.1) r after) c.as_str.ensures.value c.apply-reply.ensures.answer in
    let taken : map call_view (take (i + 1) calls) ≡ map call_view (take i calls) ++ call_view it ∷ [] = map-take_more call_view calls i it c.loop-call-test.true c.call-item.is in
    let told : map reply_view c.push.new.self.items ≡ map reply_view c.loop-call.replies.items ++ r ∷ [] =
    ap (map reply_view) c.in-Ok.ensures.items ∙ map-append reply_view c.loop-call.replies.items (c.apply-reply.result ∷ []) in
    record {
      course = rw (taken, told) (c.courses_go_on.ensures regular_search (hub_view c.args.self.now) before after _ _ (call_view it) r inv.course answer);
      len = omega (arith, c.in-Ok.ensures.len, inv.len);
      room = omega (arith, c.in-Ok.ensures.capacity, inv.room);
    }

pub returns-clause-course : goal.returns-clause-course
returns-clause-course c =
    subst (λ cs. CallCourse regular_search (hub_view c.args.self.now) (map call_view cs) (map reply_view c.loop-call.replies.items) (hub_view c.loop-call.self))
    (take_all c.loop-call.call-index c.args.calls.now (omega arith)) c.loop-call.invariant.course
