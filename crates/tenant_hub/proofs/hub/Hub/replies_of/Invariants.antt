use Rattle.std.proofs.Common.{◌≡◌, ◌≤◌, length, map, take, vec_len, vec_capacity}
use Rattle.definitions.specs.Patterns.{regular_search}
use Rattle.definitions.specs.Services.{CallCourse}
use Rattle.requests.specs.Views.{reply_view}
use Rattle.tenant_hub.specs.Calls.{call_view}
use Rattle.tenant_hub.specs.Hubs.{hub_view}
use Rattle.tenant_hub.proofs.hub.Hub.replies_of.Given as goal

abbrev pub invariant-loop-call : goal.invariant-loop-call
invariant-loop-call l = record {
  course : CallCourse regular_search (hub_view l.fn.self) (map call_view (take l.call-index l.calls)) (map reply_view l.replies.items) (hub_view l.self);
  len : vec_len l.replies ≡ l.call-index;
  room : length l.calls ≤ vec_capacity l.replies;
}
