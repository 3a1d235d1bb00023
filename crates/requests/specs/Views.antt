-- Requests and replies as the definitions have them.
use Rattle.std.specs.Prelude.{Bool, map, string_bytes}
use Rattle.std.specs.Cow.{cow_str_bytes}
use Rattle.definitions.specs.Values.{Text}
use Rattle.definitions.specs.Registries as meaning
use Rattle.output_texts.specs.Outputs.{output_view}
use Rattle.faults.specs.View.{fault_view}
use Rattle.requests.specs.declared.Request.{Request}
use Rattle.requests.specs.declared.Request.TheVariants.{Put, Delete, Validate, Bundle, Batch}
use Rattle.requests.specs.declared.StoredEntry.{StoredEntry}
use Rattle.requests.specs.declared.Reply.{Reply}
use Rattle.requests.specs.declared.Reply.TheVariants.{Stored, Deleted, Output, Bundled, StoredAll, Refused, RefusedAt}

abbrev pub request_view : Request → meaning.Request
request_view (Put uri body) = meaning.put (cow_str_bytes uri) body.now
request_view (Delete uri) = meaning.delete (cow_str_bytes uri)
request_view (Validate uri body) = meaning.validate (cow_str_bytes uri) body.now
request_view (Bundle uri) = meaning.bundled_from (cow_str_bytes uri)
request_view (Batch body) = meaning.batch body.now

-- the URI, and whether a document was replaced
abbrev pub stored_entry_view : StoredEntry → Text × Bool
stored_entry_view e = (string_bytes e.uri, e.replaced)

abbrev pub reply_view : Reply → meaning.Reply
reply_view (Stored uri replaced) = meaning.stored (string_bytes uri) replaced
reply_view (Deleted uri) = meaning.deleted (string_bytes uri)
reply_view (Output output) = meaning.validated (output_view output).1
reply_view (Bundled text) = meaning.bundled (string_bytes text)
reply_view (StoredAll entries) = meaning.stored_all (map stored_entry_view entries.items)
reply_view (Refused f) = meaning.refused (fault_view f)
reply_view (RefusedAt k f) = meaning.refused_at k (fault_view f)
