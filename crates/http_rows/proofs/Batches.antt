-- Batches over a connection.
use Rattle.std.proofs.Common.{refl}
use Rattle.std.specs.Prelude.{◌≡◌, [], ◌∷◌, true, false, codes, length}
use Rattle.std.specs.Fmt.{digits}
use Rattle.std.specs.Str.{is_utf8, chars}
use lib.Utf8.{encode}
use Rattle.httparse.proofs.OnLiterals.{httparse_on_literals}
use Rattle.percent_encoding.proofs.OnLiterals.{percent_encoding_on_literals}
use Rattle.serde_json.proofs.OnLiterals.{serde_json_on_literals}
use Rattle.definitions.specs.Values.{Text}
use Rattle.definitions.specs.Faults.{bad_route, not_object}
use Rattle.definitions.specs.Outcomes.{object_outcome, outcome}
use Rattle.definitions.specs.Registries.{Registry, batch, stored_all, refused, refused_at}
use Rattle.definitions.specs.Steps.{step}
use Rattle.http_definitions.specs.Streams.{Message}
use Rattle.http_definitions.specs.ReplyTexts.{phrase_of}
use Rattle.http_definitions.specs.Connections.{Takes, holding}
use Rattle.http_laws.proofs.Steps.{nothing_waits}
use Rattle.http_rows.proofs.Computed.{spells}
use Rattle.http_rows.proofs.Written.{message, field}
use Rattle.http_rows.proofs.Taken.{by_key, empty, no_search, takes_and_holds}

-- ---- one entry
abbrev batch_body : Text
batch_body = codes "{\"put\":[{\"schema\":{},\"uri\":\"https://ex.org/a\"}]}"

abbrev batch_request : Message
batch_request =
    message (codes "POST") (codes "/batch") 1
    (field (codes "x-tenant-key") (codes "k1") ∷ field (codes "content-length") (codes "48") ∷ []) batch_body

abbrev batch_text : Text
batch_text =
    codes "POST /batch HTTP/1.1\r\nx-tenant-key: k1\r\ncontent-length: 48\r\n\r\n{\"put\":[{\"schema\":{},\"uri\":\"https://ex.org/a\"}]}"

abbrev after_batch : Registry
after_batch = (step no_search empty (batch batch_body)).1

body_is_long : length batch_body ≡ 48
body_is_long = refl

batch_spelled : spells batch_text (batch_request ∷ []) [] ≡ true
unfolding httparse_on_literals is_utf8 chars encode
batch_spelled = refl

stored_together : Takes by_key batch_text empty
    (codes "HTTP/1.1 201 Created\r\ncontent-type: application/json\r\ncontent-length: 56\r\n\r\n{\"stored\":[{\"replaced\":false,\"uri\":\"https://ex.org/a\"}]}")
    (holding []) after_batch
unfolding httparse_on_literals percent_encoding_on_literals serde_json_on_literals digits is_utf8 chars encode object_outcome outcome phrase_of
stored_together =
    takes_and_holds batch_text (batch_request ∷ []) (stored_all ((codes "https://ex.org/a", false) ∷ []) ∷ []) [] empty after_batch
    batch_spelled refl nothing_waits (after_batch, refl, refl)

-- ---- an entry that is refused
abbrev refused_request : Message
refused_request =
    message (codes "POST") (codes "/batch") 1
    (field (codes "x-tenant-key") (codes "k1") ∷ field (codes "content-length") (codes "87") ∷ [])
    (codes "{\"put\":[{\"schema\":{},\"uri\":\"https://ex.org/a\"},{\"schema\":[],\"uri\":\"https://ex.org/b\"}]}")

abbrev refused_text : Text
refused_text =
    codes "POST /batch HTTP/1.1\r\nx-tenant-key: k1\r\ncontent-length: 87\r\n\r\n{\"put\":[{\"schema\":{},\"uri\":\"https://ex.org/a\"},{\"schema\":[],\"uri\":\"https://ex.org/b\"}]}"

refused_spelled : spells refused_text (refused_request ∷ []) [] ≡ true
unfolding httparse_on_literals is_utf8 chars encode
refused_spelled = refl

none_stored : Takes by_key refused_text empty
    (codes "HTTP/1.1 400 Bad Request\r\ncontent-type: application/json\r\ncontent-length: 40\r\n\r\n{\"entry\":1,\"fault\":6,\"name\":\"NotObject\"}")
    (holding []) empty
unfolding httparse_on_literals percent_encoding_on_literals serde_json_on_literals digits is_utf8 chars encode object_outcome outcome phrase_of
none_stored =
    takes_and_holds refused_text (refused_request ∷ []) (refused_at 1 not_object ∷ []) [] empty empty
    refused_spelled refl nothing_waits (empty, refl, refl)

-- ---- no batch has a URI of its own: the connection goes on, and nothing is asked
abbrev elsewhere : Message
elsewhere =
    message (codes "POST") (codes "/batch?uri=x") 1
    (field (codes "x-tenant-key") (codes "k1") ∷ field (codes "content-length") (codes "2") ∷ []) (codes "{}")

elsewhere_spelled : spells (codes "POST /batch?uri=x HTTP/1.1\r\nx-tenant-key: k1\r\ncontent-length: 2\r\n\r\n{}") (elsewhere ∷ []) [] ≡ true
unfolding httparse_on_literals is_utf8 chars encode
elsewhere_spelled = refl

no_route : Takes by_key (codes "POST /batch?uri=x HTTP/1.1\r\nx-tenant-key: k1\r\ncontent-length: 2\r\n\r\n{}") empty
    (codes "HTTP/1.1 404 Not Found\r\ncontent-type: application/json\r\ncontent-length: 30\r\n\r\n{\"fault\":36,\"name\":\"BadRoute\"}") (holding []) empty
unfolding httparse_on_literals percent_encoding_on_literals serde_json_on_literals digits is_utf8 chars encode phrase_of
no_route =
    takes_and_holds (codes "POST /batch?uri=x HTTP/1.1\r\nx-tenant-key: k1\r\ncontent-length: 2\r\n\r\n{}") (elsewhere ∷ []) (refused bad_route ∷ []) [] empty empty
    elsewhere_spelled refl nothing_waits (empty, (refl, refl), refl)
