-- The documents that files hold.
use Rattle.std.specs.Prelude.{List, Bool, Option, Result, Ok, find, filter, is_none, is_some, option_map}
use Rattle.definitions.specs.Documents.{resources_of}
use Rattle.definitions.specs.Faults.{Fault, taken}
use Rattle.definitions.specs.Reach.{holds_resource, references_in}
use Rattle.definitions.specs.Resolution.{base_form}
use Rattle.definitions.specs.Schemas.{Document, document_from, table_of}
use Rattle.definitions.specs.Targets.{target}
use Rattle.definitions.specs.Values.{Text, Value}
use Rattle.checks.specs.Judgements.{accepted_schema, after, unless_fault}

-- the schema's document under this base, where nothing is wrong with either
unfoldable pub document_under : Result Text Fault → Result Value Fault → Result Document Fault
document_under base schema = after base (λ b. after schema (λ v. after (accepted_schema b v) (λ w. Ok (document_from b w))))

-- some of these documents has a resource of this URI
abbrev pub is_held : List Document → Text → Bool
is_held ds uri = is_some (find (holds_resource uri) ds)

-- the first resource URI of the document that one of these has
abbrev pub shared_uri : List Document → Document → Option Text
shared_uri ds d = find (is_held ds) (resources_of d)

-- the document, where it shares no resource with these
unfoldable pub apart_from : List Document → Document → Result Document Fault
apart_from ds d = unless_fault (option_map taken (shared_uri ds d)) (Ok d)

-- the schema's document under the base form of the URI, beside these
unfoldable pub document_beside : List Document → Text → Result Value Fault → Result Document Fault
document_beside ds uri schema = after (document_under (base_form uri) schema) (apart_from ds)

-- the document's references that lead nowhere among these
abbrev pub dangling_among : List Document → List Text → List Text
dangling_among ds references = filter (λ r. is_none (target (table_of ds) r)) references

abbrev pub dangling_references : List Document → Document → List Text
dangling_references ds d = dangling_among ds (references_in d)
