-- What happens on connections, and what it means for each tenant.
use Rattle.std.proofs.Common.{◌≡◌, ℕ, List, [], ◌∷◌, ◌++◌, None, Result, refl, inl, subst}
use Rattle.definitions.specs.Patterns.{regular_search}
use Rattle.definitions.specs.Services.{KeyedRegistry}
use Rattle.definition_laws.proofs.TenantCourses.{own_course, own_replies, all_unknown}
use Rattle.connections.specs.Events.{Event, Standing, none_is_open, Happen, Answered}
use Rattle.connections.proofs.Happened.{history_of}
use Rattle.serving.specs.declared.failure.Failure.{Failure}
use Rattle.serving.specs.Transfers.{Transfer}
use Rattle.serving.specs.Exchanges.{wire}
use Rattle.serving.specs.Serving.{IsServed, IsBounded}
use Rattle.serving.specs.Talks.{Talk, AreServed}
use Rattle.serving.proofs.Talked.{talks_happen, served_transfers}
use Rattle.tenant_hub.specs.Isolation.{HaveOwnCourses, HaveOwnReplies, RefuseUnknownKeys}
use Rattle.http_front.specs.Calls.{call_answers}
use Rattle.http_front.specs.Isolation.{calls_of, call_replies_of, AreIsolated, AreServedAlone}
use Rattle.http_front.specs.Running.{IsHubServed}
use Rattle.http_front.proofs.Calls.{course_of}

pub isolated_of : (es : List Event) (before after : List KeyedRegistry) (now : ℕ → Standing) → Happen call_answers none_is_open before es now after
    → (xs : List Answered) × AreIsolated before es now after xs
unfolding HaveOwnCourses HaveOwnReplies RefuseUnknownKeys
isolated_of es before after now happened =
    let all = history_of call_answers es before after now happened in
    let course = course_of all.0 before after all.1.answered in (
      all.0,
      record {
        history = all.1;
        courses = λ key g is. own_course regular_search before after (calls_of all.0) (call_replies_of all.0) key g course is;
        own = λ key g is none. own_replies regular_search before after (calls_of all.0) (call_replies_of all.0) key g course is none;
        unknown = λ key is. (all_unknown regular_search before after (calls_of all.0) (call_replies_of all.0) key course is).0;
      },
    )

pub served_alone : (talks : List Talk) (before after : List KeyedRegistry) → AreServed call_answers before talks after → AreServedAlone before talks after
served_alone talks before after x =
    let happened = talks_happen call_answers before after talks x in
    let alone = isolated_of happened.0 before after happened.1 happened.2 in
    record { events = happened.0; now = happened.1; carried = happened.3; answered = alone.0; isolated = alone.1 }

-- one connection
unfoldable pub hub_served : (before after : List KeyedRegistry) (reads writes more others : List Transfer) (r : Result (Unit {0}) Failure)
    → IsServed call_answers None (wire before reads writes) r (wire after more others) → IsBounded reads more → IsHubServed before reads writes r more others
hub_served before after reads writes more others r x bounded =
    let moved = served_transfers call_answers (wire before reads writes) (wire after more others) r x in
    let talk : Talk = record { read = moved.0.0; wrote = moved.1.0; result = r } in
    let again : IsServed call_answers None (wire before reads writes) r (wire after (reads ++ moved.0.0) (writes ++ moved.1.0)) =
    subst (λ ts. IsServed call_answers None (wire before reads writes) r (wire after ts (writes ++ moved.1.0))) moved.0.1
    (subst (λ ts. IsServed call_answers None (wire before reads writes) r (wire after more ts)) moved.1.1 x) in
    record {
      after = after;
      served = x;
      bounded = bounded;
      talk = talk;
      read_on = moved.0.1;
      wrote_on = moved.1.1;
      ended = refl;
      alone = served_alone (talk ∷ []) before after (after, inl (reads, writes, again), refl);
    }

-- .. by a handler of these registries
pub served_as : (before start after : List KeyedRegistry) (reads writes more others : List Transfer) (r q : Result (Unit {0}) Failure) → start ≡ before → r ≡ q
    → IsServed call_answers None (wire start reads writes) r (wire after more others) → IsBounded reads more → IsHubServed before reads writes q more others
served_as before start after reads writes more others r q e same x bounded =
    hub_served before after reads writes more others q
    (subst (λ ks. IsServed call_answers None (wire ks reads writes) q (wire after more others)) e
    (subst (λ (p : Result (Unit {0}) Failure). IsServed call_answers None (wire start reads writes) p (wire after more others)) same x)) bounded
