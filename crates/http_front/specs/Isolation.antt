-- What each tenant may rely on, whatever comes on the connections.
use Rattle.std.specs.Prelude.{ℕ, List, [], ◌∷◌, Option, Some, None}
use Rattle.definitions.specs.Registries.{Request, Reply}
use Rattle.definitions.specs.Services.{KeyedRegistry, Call}
use Rattle.definitions.specs.Values.{Text}
use Rattle.http_definitions.specs.Heads.{key_of}
use Rattle.http_definitions.specs.Routes.{request_of}
use Rattle.connections.specs.Events.{Event, Standing, none_is_open, Happen, Answered, IsHistory}
use Rattle.serving.specs.Talks.{Talk, AreServed, CarryAll}
use Rattle.tenant_hub.specs.Isolation.{HaveOwnCourses, HaveOwnReplies, RefuseUnknownKeys}
use Rattle.http_front.specs.Calls.{call_answers}

-- ---- the calls among whole requests, and their replies; a target that is no route's is no call
abbrev pub with_call : Text → Option Request → List Call → List Call
with_call key None cs = cs
with_call key (Some q) cs = (key, q) ∷ cs

abbrev pub with_reply : Option Request → Reply → List Reply → List Reply
with_reply None r rs = rs
with_reply (Some q) r rs = r ∷ rs

abbrev pub calls_of : List Answered → List Call
calls_of [] = []
calls_of (a ∷ xs) = with_call (key_of a.message.head) (request_of a.message.head a.message.body) (calls_of xs)

abbrev pub call_replies_of : List Answered → List Reply
call_replies_of [] = []
call_replies_of (a ∷ xs) = with_reply (request_of a.message.head a.message.body) a.reply (call_replies_of xs)

-- ---- what is said of them
-- Each connection is sent the replies to the requests that its stream spells, one after the other. The
-- replies to each tenant's requests, on all connections together, are a course of them from its own
-- registry; where none of them is refused for room, they are the replies to its requests alone.
-- Requests with a key that no tenant has are refused.
pub record AreIsolated (before : List KeyedRegistry) (es : List Event) (now : ℕ → Standing) (after : List KeyedRegistry) (xs : List Answered) : Type 0 where
  pub history : IsHistory call_answers before es now after xs
  pub courses : HaveOwnCourses before (calls_of xs) (call_replies_of xs) after
  pub own : HaveOwnReplies before (calls_of xs) (call_replies_of xs)
  pub unknown : RefuseUnknownKeys before (calls_of xs) (call_replies_of xs)

-- of connections of which none is open at first
abbrev pub ConnectionsAreIsolated : Type 0
ConnectionsAreIsolated =
    (es : List Event) (before after : List KeyedRegistry) (now : ℕ → Standing)
    → Happen call_answers none_is_open before es now after
    → (xs : List Answered) × AreIsolated before es now after xs

-- what was read and written on connections that were served one after the other
pub record AreServedAlone (before : List KeyedRegistry) (talks : List Talk) (after : List KeyedRegistry) : Type 0 where
  pub events : List Event
  pub now : ℕ → Standing
  pub carried : CarryAll 0 events talks
  pub answered : List Answered
  pub isolated : AreIsolated before events now after answered

abbrev pub ServedConnectionsAreIsolated : Type 0
ServedConnectionsAreIsolated =
    (talks : List Talk) (before after : List KeyedRegistry)
    → AreServed call_answers before talks after → AreServedAlone before talks after
