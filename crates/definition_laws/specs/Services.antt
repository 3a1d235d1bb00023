-- What the laws say of the registries of several tenants: each is served as if it were alone.
use Rattle.std.specs.Prelude.{◌≡◌, ◌≢◌, ℕ, List, [], ◌∷◌, ◌++◌, Some, None, Ok}
use Rattle.definitions.specs.Values.{Text}
use Rattle.definitions.specs.Faults.{unknown_tenant}
use Rattle.definitions.specs.Schemas.{Document}
use Rattle.definitions.specs.Registries.{Registry, Reply, refused}
use Rattle.definitions.specs.Searches.{Search}
use Rattle.definitions.specs.Runs.{Course, IsAnswer, replies}
use Rattle.definitions.specs.Keeping.{AreKept, IsKept}
use Rattle.definitions.specs.Services.{KeyedRegistry, Call, registry_of, IsCallAnswer, CallCourse, own_requests, replies_at, AllUnknown}
use Rattle.definitions.specs.Tenants.{Tenant, new_server}
use Rattle.definition_laws.specs.Laws.{NoneIsForRoom}

-- ---- one call
-- an answer to a tenant is one of its own registry
abbrev pub CallsAnswerTheirTenant : Type 0
CallsAnswerTheirTenant =
    (search : Search) (ks ls : List KeyedRegistry) (c : Call) (r : Reply) (g : Registry) → IsCallAnswer search ks c r ls → registry_of ks c.0 ≡ Some g
    → (h : Registry) × ((registry_of ls c.0 ≡ Some h) × IsAnswer search g c.1 r h)

-- an unknown key is refused, and changes nothing
abbrev pub UnknownKeysAreRefused : Type 0
UnknownKeysAreRefused =
    (search : Search) (ks ls : List KeyedRegistry) (c : Call) (r : Reply) → IsCallAnswer search ks c r ls → registry_of ks c.0 ≡ None
    → (r ≡ refused unknown_tenant) × (ls ≡ ks)

-- the registries of all other keys stay
abbrev pub OtherRegistriesStay : Type 0
OtherRegistriesStay =
    (search : Search) (ks ls : List KeyedRegistry) (c : Call) (r : Reply) (key : Text) → IsCallAnswer search ks c r ls → key ≢ c.0
    → registry_of ls key ≡ registry_of ks key

-- ---- calls in turn
-- a tenant's replies and its last registry are a course of its own requests
abbrev pub TenantsHaveTheirCourses : Type 0
TenantsHaveTheirCourses =
    (search : Search) (ks ls : List KeyedRegistry) (cs : List Call) (rs : List Reply) (key : Text) (g : Registry)
    → CallCourse search ks cs rs ls → registry_of ks key ≡ Some g
    → (h : Registry) × ((registry_of ls key ≡ Some h) × Course search g (own_requests key cs) (replies_at key cs rs) h)

-- and where none of them is for room, its replies are those to its own requests alone
abbrev pub TenantsHaveTheirReplies : Type 0
TenantsHaveTheirReplies =
    (search : Search) (ks ls : List KeyedRegistry) (cs : List Call) (rs : List Reply) (key : Text) (g : Registry)
    → CallCourse search ks cs rs ls → registry_of ks key ≡ Some g → NoneIsForRoom search (own_requests key cs) (replies_at key cs rs)
    → replies_at key cs rs ≡ replies search g (own_requests key cs)

-- a key that no tenant has is refused each time
abbrev pub UnknownKeysStayUnknown : Type 0
UnknownKeysStayUnknown =
    (search : Search) (ks ls : List KeyedRegistry) (cs : List Call) (rs : List Reply) (key : Text)
    → CallCourse search ks cs rs ls → registry_of ks key ≡ None → AllUnknown (replies_at key cs rs) × (registry_of ls key ≡ None)

-- one more answer makes a course of one more
abbrev pub CoursesGoOn : Type 0
CoursesGoOn =
    (search : Search) (ks ms ls : List KeyedRegistry) (cs : List Call) (rs : List Reply) (c : Call) (r : Reply)
    → CallCourse search ks cs rs ms → IsCallAnswer search ms c r ls → CallCourse search ks (cs ++ c ∷ []) (rs ++ r ∷ []) ls

-- ---- what holds of each registry
abbrev pub AreAllKept : Search → List KeyedRegistry → Type 0
AreAllKept search ks = (key : Text) (g : Registry) → registry_of ks key ≡ Some g → IsKept search g

abbrev pub NewServersAreKept : Type 0
NewServersAreKept =
    (search : Search) (tenants : List Tenant) (capacity : ℕ) (library : List Document) (ks : List KeyedRegistry) → AreKept search library
    → new_server tenants capacity (Ok library) ≡ Ok ks → AreAllKept search ks

abbrev pub CallsKeepRegistries : Type 0
CallsKeepRegistries =
    (search : Search) (ks ls : List KeyedRegistry) (cs : List Call) (rs : List Reply) → CallCourse search ks cs rs ls → AreAllKept search ks → AreAllKept search ls
