-- The calls among whole requests.
use Rattle.std.proofs.Common.{List, [], ◌∷◌, Option, Some, None, map, subst}
use Rattle.definitions.specs.Patterns.{regular_search}
use Rattle.definitions.specs.Registries.{Request}
use Rattle.definitions.specs.Services.{KeyedRegistry, CallCourse}
use Rattle.http_definitions.specs.Heads.{key_of}
use Rattle.http_definitions.specs.Routes.{request_of}
use Rattle.http_definitions.specs.Connections.{AnswersAsked, AnswersAll}
use Rattle.connections.specs.Events.{Answered}
use Rattle.http_front.specs.Calls.{call_answers}
use Rattle.http_front.specs.Isolation.{with_call, with_reply, calls_of, call_replies_of}

pub course_of : (xs : List Answered) (ks ls : List KeyedRegistry)
    → AnswersAll call_answers ks (map (λ (a : Answered). a.message) xs) (map (λ (a : Answered). a.reply) xs) ls
    → CallCourse regular_search ks (calls_of xs) (call_replies_of xs) ls
course_of [] ks ls x = x
course_of (a ∷ xs) ks ls x = by (request_of a.message.head a.message.body) x.0 x.1 (course_of xs x.0 ls x.2)
  where
    by : (o : Option Request) (ms : List KeyedRegistry) → AnswersAsked call_answers (key_of a.message.head) o ks a.reply ms
        → CallCourse regular_search ms (calls_of xs) (call_replies_of xs) ls
        → CallCourse regular_search ks (with_call (key_of a.message.head) o (calls_of xs)) (with_reply o a.reply (call_replies_of xs)) ls
    by None ms y rest = subst (λ ns. CallCourse regular_search ns (calls_of xs) (call_replies_of xs) ls) y.1 rest
    by (Some q) ms y rest = (ms, y, rest)
