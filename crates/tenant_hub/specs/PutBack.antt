-- What putting a document back gives, which a registry held before.
use Rattle.std.specs.Prelude.{◌≡◌, ◌⊎◌, List, Option, Result, Ok, Err, if◌then◌else◌, option_and_then, IsTrue, MatchOption}
use Rattle.definitions.specs.Faults.{Fault, bad_pattern, no_room, too_large, unknown_tenant}
use Rattle.definitions.specs.Limits.{limits}
use Rattle.definitions.specs.Patterns.{regular_search}
use Rattle.definitions.specs.Registries.{Registry, Reply, refused, for_value, for_base, put_into}
use Rattle.definitions.specs.Resolution.{base_form}
use Rattle.definitions.specs.Schemas.{document_from}
use Rattle.definitions.specs.Searches.{builds}
use Rattle.definitions.specs.Services.{KeyedRegistry, registry_of, with_registry}
use Rattle.definitions.specs.Texts.{parsed_value}
use Rattle.definitions.specs.Values.{Text, Value}
use Rattle.definition_laws.specs.Reading.{has_arrays_within}
use Rattle.tenant_documents.specs.StoredTexts.{stored_texts}

-- where each array is as long as one in a body may be
abbrev pub within_arrays : Result Value Fault → Result Value Fault
within_arrays (Ok v) = if has_arrays_within limits.body_bytes v then Ok v else Err too_large
within_arrays (Err f) = Err f

-- the value of a text that may be longer than a body
abbrev pub restored_value : Text → Result Value Fault
restored_value text = within_arrays (parsed_value text)

-- as a put of a body with this value under this URI
abbrev pub put_back : Registry → Text → Text → Reply × Registry
put_back g base text = for_value g (restored_value text) (λ v. for_base g (base_form base) (λ b. put_into regular_search g (document_from b v)))

-- want of memory, or a pattern that the grammar reads and that couldn't be built
abbrev pub IsBackForRoom : Text → Text → Reply → Type 0
IsBackForRoom base text r =
    (r ≡ refused no_room) ⊎ ((r ≡ refused bad_pattern) × IsTrue (builds regular_search (base_form base) (restored_value text)))

-- what may be answered: that, or a refusal for room, which changes nothing
abbrev pub IsPutBack : Registry → Text → Text → Reply → Registry → Type 0
IsPutBack g base text r h =
    ((r ≡ (put_back g base text).0) × (h ≡ (put_back g base text).1)) ⊎ (IsBackForRoom base text r × (h ≡ g))

-- ---- by a tenant's key: into the registry with this key and no other; no registry changes where there is none
abbrev pub IsRestored : List KeyedRegistry → Text → Text → Text → Reply → List KeyedRegistry → Type 0
IsRestored ks key base text r ls =
    MatchOption (registry_of ks key) ((r ≡ refused unknown_tenant) × (ls ≡ ks))
    (λ g. (h : Registry) × (IsPutBack g base text r h × (ls ≡ with_registry ks key h)))

-- the base and the compact text of the tenant's document with this canonical URI
abbrev pub stored_texts_of : List KeyedRegistry → Text → Text → Option (Text × Text)
stored_texts_of ks key uri = option_and_then (λ g. stored_texts g uri) (registry_of ks key)
