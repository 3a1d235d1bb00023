-- What the rows ask, over texts.
use Rattle.std.specs.Prelude.{ℕ, zero, suc, decimal, List, [], ◌∷◌, ◌++◌, codes, Bool, Option, Some, None, Result, Ok, Err, option_map, option_and_then, map, not}
use Rattle.std.specs.List.{list_any}
use Rattle.definitions.specs.Values.{Text, Value, same_text}
use Rattle.definitions.specs.Texts.{text, parsed_value}
use Rattle.definitions.specs.Faults.{Fault, name_of, carried_text}
use Rattle.definitions.specs.Pointers.{fragment_text}
use Rattle.definitions.specs.Schemas.{Document, document_from, table_of}
use Rattle.definitions.specs.Scanning.{scan_fault}
use Rattle.definitions.specs.Targets.{target}
use Rattle.definitions.specs.Registries as registry
use Rattle.definitions.specs.Registries.{Request, Reply}
use Rattle.definitions.specs.Searches.{Search}
use Rattle.definitions.specs.Reach.{reach}
use Rattle.definitions.specs.Batches.{library_of}
use Rattle.definitions.specs.Runs.{replies}
use Rattle.definitions.specs.Services.{Call, call_replies}
use Rattle.definitions.specs.Tenants.{Tenant, empty_registries}
use Rattle.definitions.specs.Patterns.{regular_search}
use Rattle.definitions.specs.Applied.{Outcome}
use Rattle.definitions.specs.Answers.{answer_by, rules_of, output_text}
use Rattle.definitions.specs.Limits.{Limits, limits}

abbrev pub read_value : Result Value Fault → Option Value
read_value (Ok v) = Some v
read_value (Err f) = None

abbrev pub parsed : Text → Option Value
parsed t = read_value (parsed_value t)

-- a fault, by its name and the text that it carries
pub data Told : Type 0 where
  said : Text → Told
  refused : Text → Option Text → Told

abbrev pub told : Fault → Told
told f = refused (name_of f) (carried_text f)

-- ---- reading
abbrev pub read_again : Result Value Fault → Told
read_again (Ok v) = said (text v)
read_again (Err f) = told f

-- the text is read and written again
abbrev pub rewritten : Text → Told
rewritten t = read_again (parsed_value t)

-- ---- scanning
abbrev pub scanned : Text → Text → Option (Option Told)
scanned base t = option_map (λ v. option_map told (scan_fault base v)) (parsed t)

-- ---- validation
-- the documents with these bases and texts
abbrev pub documents : List (Text × Text) → Option (List Document)
documents [] = Some []
documents (d ∷ ds) = option_and_then (λ v. option_map (λ r. document_from d.0 v ∷ r) (documents ds)) (parsed d.1)

-- no pattern matches
abbrev pub no_match : Text → Text → Bool
no_match pattern t = list_any (same_text t) []

abbrev pub answered : Result Outcome Fault → Told
answered (Ok o) = said (output_text o)
answered (Err f) = told f

abbrev pub validated_within : Limits → List (Text × Text) → Text → Text → Option Told
validated_within most docs uri instance =
    option_and_then (λ ds. option_map (λ x. answered (answer_by most (rules_of no_match ds) uri x)) (parsed instance)) (documents docs)

-- the documents, asked by a URI
abbrev pub validated : List (Text × Text) → Text → Text → Option Told
validated = validated_within limits

-- one document
abbrev pub validated_alone : Text → Text → Option Told
validated_alone schema = validated ((codes "https://ex.org/s", schema) ∷ []) (codes "https://ex.org/s")

-- ---- references
abbrev pub target_of : List (Text × Text) → Text → Option Text
target_of docs t =
    option_and_then (λ ds. option_map (λ s. s.resource ++ (35 ∷ fragment_text s.pointer)) (target (table_of ds) t)) (documents docs)

-- the canonical URIs of what is reached
abbrev pub reached : List (Text × Text) → Text → Option (List Text)
reached docs uri = option_map (λ ds. map (λ d. d.canonical) (reach ds uri)) (documents docs)

-- ---- requests: the replies of a tenant with these quotas, where the grammar reads all but these patterns
pub data ToldReply : Type 0 where
  was : Reply → ToldReply
  gave : Text → Option Text → ToldReply
  gave_at : ℕ → Text → Option Text → ToldReply

abbrev pub told_reply : Reply → ToldReply
told_reply (registry.refused f) = gave (name_of f) (carried_text f)
told_reply (registry.refused_at k f) = gave_at k (name_of f) (carried_text f)
told_reply r = was r

abbrev pub reading_all_but : List Text → Search
reading_all_but unread = record { reads = (λ p. not (list_any (same_text p) unread)); matches = no_match }

-- with what patterns mean in earnest
abbrev pub replied_matching : List Request → List ToldReply
replied_matching requests =
    map told_reply (replies regular_search (record { documents = []; library = []; most_documents = 100; most_bytes = 10000 }) requests)

abbrev pub replied_beside : List Document → ℕ → ℕ → List Request → List ToldReply
replied_beside library most_documents most_bytes requests =
    map told_reply (replies (reading_all_but []) (record { documents = []; library = library; most_documents = most_documents; most_bytes = most_bytes }) requests)

abbrev pub replied : List Text → ℕ → ℕ → List Request → List ToldReply
replied unread most_documents most_bytes requests =
    map told_reply (replies (reading_all_but unread) (record { documents = []; library = []; most_documents = most_documents; most_bytes = most_bytes }) requests)

-- what a library's text gives
pub data ToldLibrary : Type 0 where
  holds : List Text → ToldLibrary
  denied : Text → Option Text → ToldLibrary

abbrev pub told_library : Result (List Document) Fault → ToldLibrary
told_library (Ok ds) = holds (map (λ d. d.canonical) ds)
told_library (Err f) = denied (name_of f) (carried_text f)

abbrev pub library_told : Text → ToldLibrary
library_told bytes = told_library (library_of (reading_all_but []) bytes)

abbrev pub documents_or_none : Result (List Document) Fault → List Document
documents_or_none (Ok ds) = ds
documents_or_none (Err f) = []

-- with the library that a text gives
abbrev pub replied_with : Text → ℕ → ℕ → List Request → List ToldReply
replied_with bytes = replied_beside (documents_or_none (library_of (reading_all_but []) bytes))

-- ---- tenants
abbrev pub tenant : Text → ℕ → ℕ → Tenant
tenant key most_documents most_bytes = record { key = key; most_documents = most_documents; most_bytes = most_bytes }

-- so many, with keys of their own
abbrev pub numbered : ℕ → List Tenant
numbered zero = []
numbered (suc n) = tenant (codes "k" ++ decimal n) 100 10000 ∷ numbered n

-- the replies to calls by tenants with these keys
abbrev pub called : List Text → List Call → List ToldReply
called keys calls = map told_reply (call_replies (reading_all_but []) (empty_registries [] (map (λ key. tenant key 100 10000) keys)) calls)

-- beside the library that a text gives, each with 2 documents and 100 bytes
abbrev pub called_with : Text → List Text → List Call → List ToldReply
called_with bytes keys calls =
    map told_reply (call_replies (reading_all_but []) (empty_registries (documents_or_none (library_of (reading_all_but []) bytes)) (map (λ key. tenant key 2 100) keys)) calls)
