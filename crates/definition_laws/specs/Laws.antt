-- What the laws say.
use Rattle.std.specs.Prelude.{◌≡◌, ◌↔◌, ℕ, Ok, List, [], ◌∷◌, false, ⊤}
use Rattle.definitions.specs.Values.{Text}
use Rattle.definitions.specs.Faults.{bad_pattern}
use Rattle.definitions.specs.Resolution.{base_form}
use Rattle.definitions.specs.Schemas.{Document}
use Rattle.definitions.specs.Reach.{IsReached}
use Rattle.definitions.specs.Applied.{Application, Rules}
use Rattle.definitions.specs.Outcomes.{outcome}
use Rattle.definitions.specs.Registries.{Registry, documents_seen, Request, validate, bundled_from, Reply, refused, refused_at}
use Rattle.definitions.specs.Searches.{Search}
use Rattle.definitions.specs.Steps.{step}
use Rattle.definitions.specs.Runs.{Course, IsForRoom, replies, AgreeAnswerAlike}
use Rattle.definitions.specs.Keeping.{IsKept}

abbrev pub FailingEvaluatesNothing : Type 0
FailingEvaluatesNothing =
    (rules : Rules) (n : ℕ) (a : Application) → (outcome rules n a).valid ≡ false
    → ((outcome rules n a).names ≡ []) × ((outcome rules n a).indexes ≡ [])

-- a fault, also one of an entry of a batch
abbrev pub IsRefused : Reply → Type 0
IsRefused (refused f) = ⊤
IsRefused (refused_at k f) = ⊤
IsRefused _ = ⊥

abbrev pub RefusalsKeepTheRegistry : Type 0
RefusalsKeepTheRegistry = (search : Search) (g : Registry) (q : Request) → IsRefused (step search g q).0 → (step search g q).1 ≡ g

-- no answer is refused for room
abbrev pub NoneIsForRoom : Search → List Request → List Reply → Type 0
NoneIsForRoom search (q ∷ qs) (r ∷ rs) = (IsForRoom search q r → ⊥) × NoneIsForRoom search qs rs
NoneIsForRoom search _ _ = Unit {0}

-- the registry after the requests
abbrev pub registry_after : Search → Registry → List Request → Registry
registry_after search g [] = g
registry_after search g (q ∷ qs) = registry_after search (step search g q).1 qs

abbrev pub CoursesAreReplies : Type 0
CoursesAreReplies =
    (search : Search) (g h : Registry) (qs : List Request) (rs : List Reply) → Course search g qs rs h → NoneIsForRoom search qs rs
    → (rs ≡ replies search g qs) × (h ≡ registry_after search g qs)

abbrev pub AgreeingAnswerAlike : Type 0
AgreeingAnswerAlike = (search : Search) (g h : Registry) (uri body : Text) → AgreeAnswerAlike search g h uri body

-- kept registries from which a URI reaches the same set of documents answer alike where it is validated or bundled by
abbrev pub SameReachedSetsAnswerAlike : Type 0
SameReachedSetsAnswerAlike =
    (search : Search) (g h : Registry) (uri body : Text) → IsKept search g → IsKept search h
    → ((b : Text) → base_form uri ≡ Ok b → (d : Document) → IsReached (documents_seen g) b d ↔ IsReached (documents_seen h) b d)
    → ((step search g (validate uri body)).0 ≡ (step search h (validate uri body)).0)
    × ((step search g (bundled_from uri)).0 ≡ (step search h (bundled_from uri)).0)

-- where a pattern is refused by the definitions, it isn't for room
abbrev pub BadPatternsAreNotForRoom : Type 0
BadPatternsAreNotForRoom =
    (search : Search) (g : Registry) (q : Request)
    → ((step search g q).0 ≡ refused bad_pattern → IsForRoom search q (refused bad_pattern) → ⊥)
    × ((n : ℕ) → (step search g q).0 ≡ refused_at n bad_pattern → IsForRoom search q (refused_at n bad_pattern) → ⊥)
