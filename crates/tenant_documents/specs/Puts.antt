-- What a put of one document may answer.
use Rattle.std.specs.Prelude.{◌≡◌, ◌⊎◌, ℕ, ◌^◌, ◌≤◌, Result, Ok, List, Option, Some, None, Bool, false, not, length, IsTrue}
use Rattle.definitions.specs.Documents.{bytes_of}
use Rattle.definitions.specs.Faults.{Fault, bad_pattern, no_room}
use Rattle.definitions.specs.Patterns.{regular_search}
use Rattle.definitions.specs.Registries.{Registry, Reply, put, put_into, deleted_from, refused, body_value, for_base}
use Rattle.definitions.specs.Resolution.{base_form}
use Rattle.definitions.specs.Runs.{IsAnswer}
use Rattle.definitions.specs.Schemas.{Document, document_from}
use Rattle.definitions.specs.Searches.{builds}
use Rattle.definitions.specs.Values.{Text, Value, same_text}

-- the text is the URI's that the document stands under, and the body's value the document's
pub record IsSent (uri body : Text) (d : Document) : Type 0 where
  pub base : base_form uri ≡ Ok d.base
  pub value : body_value body ≡ Ok d.value

-- every registry may answer the put of this so, and then is as it was
abbrev pub IsRefused : Text → Text → Fault → Type 0
IsRefused uri body f = (g : Registry) → IsAnswer regular_search g (put uri body) (refused f) g

-- what putting this document into the registry gives, or want of room
abbrev pub IsPut : Registry → Document → Reply → Registry → Type 0
IsPut g d r h =
    ((r ≡ (put_into regular_search g d).0) × (h ≡ (put_into regular_search g d).1)) ⊎ ((r ≡ refused no_room) × (h ≡ g))

-- what putting this value under a base gives, where it is one
abbrev pub put_under : Registry → Result Text Fault → Value → Reply × Registry
put_under g base v = for_base g base (λ b. put_into regular_search g (document_from b v))

-- refused for room: want of memory, or a pattern that the grammar reads and that couldn't be built
abbrev pub IsForRoom : Result Text Fault → Value → Reply → Type 0
IsForRoom base v r = (r ≡ refused no_room) ⊎ ((r ≡ refused bad_pattern) × IsTrue (builds regular_search base (Ok v)))

-- what that may answer: it, or a refusal for room, which changes nothing
abbrev pub IsPutUnder : Registry → Result Text Fault → Value → Reply → Registry → Type 0
IsPutUnder g base v r h =
    ((r ≡ (put_under g base v).0) × (h ≡ (put_under g base v).1)) ⊎ (IsForRoom base v r × (h ≡ g))

-- the document stands under the base, with this value
pub record IsUnder (form : Result Text Fault) (v : Value) (d : Document) : Type 0 where
  pub base : form ≡ Ok d.base
  pub value : v ≡ d.value

-- every registry may answer this so, and then is as it was
abbrev pub RefusesUnder : Result Text Fault → Value → Fault → Type 0
RefusesUnder base v f = (g : Registry) → IsPutUnder g base v (refused f) g

-- of the document that holds a URI, where one does: whether it has this canonical URI
abbrev pub is_named : Text → Option Document → Bool
is_named canonical None = false
is_named canonical (Some d) = same_text canonical d.canonical

-- or another
abbrev pub is_named_otherwise : Text → Option Document → Bool
is_named_otherwise canonical None = false
is_named_otherwise canonical (Some d) = not (same_text canonical d.canonical)

-- the sum is this number, or too large for 64 bits
abbrev pub IsSum : Option ℕ → ℕ → Type 0
IsSum (Some n) sum = sum ≡ n
IsSum None sum = 2 ^ 64 ≤ sum

-- so many documents, of so many bytes together
pub record AreSized (count : ℕ) (bytes : Option ℕ) (ds : List Document) : Type 0 where
  pub documents : length ds ≡ count
  pub together : IsSum bytes (bytes_of ds)

-- what deleting what stands under this canonical URI gives, or want of room
abbrev pub IsDeleted : Registry → Text → Reply → Registry → Type 0
IsDeleted g canonical r h =
    ((r ≡ (deleted_from g canonical).0) × (h ≡ (deleted_from g canonical).1)) ⊎ ((r ≡ refused no_room) × (h ≡ g))
