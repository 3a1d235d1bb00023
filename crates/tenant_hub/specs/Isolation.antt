-- What each tenant may rely on, whatever the others ask.
use Rattle.std.specs.Prelude.{◌≡◌, List, Some, None}
use Rattle.definitions.specs.Patterns.{regular_search}
use Rattle.definitions.specs.Registries.{Registry, Reply}
use Rattle.definitions.specs.Runs.{Course, replies}
use Rattle.definitions.specs.Services.{KeyedRegistry, Call, registry_of, own_requests, replies_at, AllUnknown}
use Rattle.definitions.specs.Values.{Text}
use Rattle.definition_laws.specs.Laws.{NoneIsForRoom}

-- a tenant's replies and its last registry are a course of its own requests
unfoldable pub HaveOwnCourses : List KeyedRegistry → List Call → List Reply → List KeyedRegistry → Type 0
HaveOwnCourses before cs rs after =
    (key : Text) (g : Registry) → registry_of before key ≡ Some g
    → (h : Registry) × ((registry_of after key ≡ Some h) × Course regular_search g (own_requests key cs) (replies_at key cs rs) h)

-- where none of them is refused for room, they are the replies to its own requests alone
unfoldable pub HaveOwnReplies : List KeyedRegistry → List Call → List Reply → Type 0
HaveOwnReplies before cs rs =
    (key : Text) (g : Registry) → registry_of before key ≡ Some g → NoneIsForRoom regular_search (own_requests key cs) (replies_at key cs rs)
    → replies_at key cs rs ≡ replies regular_search g (own_requests key cs)

-- a key that no tenant has is refused each time
unfoldable pub RefuseUnknownKeys : List KeyedRegistry → List Call → List Reply → Type 0
RefuseUnknownKeys before cs rs = (key : Text) → registry_of before key ≡ None → AllUnknown (replies_at key cs rs)
