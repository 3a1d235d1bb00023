-- The bytes of given replies.
use Rattle.std.proofs.Common.{refl}
use Rattle.std.specs.Prelude.{◌≡◌, [], ◌∷◌, true, false, codes, map, Some, Option}
use Rattle.std.specs.Fmt.{digits}
use Rattle.std.specs.Str.{is_utf8, chars}
use Rattle.serde_json.proofs.OnLiterals.{serde_json_on_literals}
use Rattle.definitions.specs.Values.{Text}
use Rattle.definitions.specs.Faults.{unknown_tenant, taken, bad_route, not_object}
use Rattle.definitions.specs.Registries.{stored, deleted, validated, stored_all, refused, refused_at}
use Rattle.http_definitions.specs.ReplyTexts.{phrases, phrase_of, reply_text, closing_text}
use Rattle.http.specs.StatusCode.{reason_phrase}

new_document : reply_text false (stored (codes "https://ex.org/s") false)
    ≡ codes "HTTP/1.1 201 Created\r\ncontent-type: application/json\r\ncontent-length: 46\r\n\r\n{\"replaced\":false,\"stored\":\"https://ex.org/s\"}"
unfolding serde_json_on_literals digits is_utf8 chars phrase_of
new_document = refl

replaced_document : reply_text false (stored (codes "u") true)
    ≡ codes "HTTP/1.1 200 OK\r\ncontent-type: application/json\r\ncontent-length: 30\r\n\r\n{\"replaced\":true,\"stored\":\"u\"}"
unfolding serde_json_on_literals digits is_utf8 chars phrase_of
replaced_document = refl

deleted_document : reply_text true (deleted (codes "u"))
    ≡ codes "HTTP/1.1 200 OK\r\ncontent-type: application/json\r\ncontent-length: 15\r\nconnection: close\r\n\r\n{\"deleted\":\"u\"}"
unfolding serde_json_on_literals digits is_utf8 chars phrase_of
deleted_document = refl

an_output : reply_text false (validated (codes "{\"annotations\":[],\"valid\":true}"))
    ≡ codes "HTTP/1.1 200 OK\r\ncontent-type: application/json\r\ncontent-length: 31\r\n\r\n{\"annotations\":[],\"valid\":true}"
unfolding digits phrase_of
an_output = refl

no_key : reply_text false (refused unknown_tenant)
    ≡ codes "HTTP/1.1 403 Forbidden\r\ncontent-type: application/json\r\ncontent-length: 35\r\n\r\n{\"fault\":24,\"name\":\"UnknownTenant\"}"
unfolding serde_json_on_literals digits is_utf8 chars phrase_of
no_key = refl

no_route : reply_text true (refused bad_route)
    ≡ codes "HTTP/1.1 404 Not Found\r\ncontent-type: application/json\r\ncontent-length: 30\r\nconnection: close\r\n\r\n{\"fault\":36,\"name\":\"BadRoute\"}"
unfolding serde_json_on_literals digits is_utf8 chars phrase_of
no_route = refl

at_a_place : reply_text false (refused (taken (codes "x:y")))
    ≡ codes "HTTP/1.1 409 Conflict\r\ncontent-type: application/json\r\ncontent-length: 38\r\n\r\n{\"at\":\"x:y\",\"fault\":27,\"name\":\"Taken\"}"
unfolding serde_json_on_literals digits is_utf8 chars phrase_of
at_a_place = refl

past_hope : closing_text
    ≡ codes "HTTP/1.1 400 Bad Request\r\ncontent-type: application/json\r\ncontent-length: 32\r\nconnection: close\r\n\r\n{\"fault\":37,\"name\":\"BadRequest\"}"
unfolding serde_json_on_literals digits is_utf8 chars phrase_of
past_hope = refl

some_stored : reply_text false (stored_all ((codes "https://ex.org/a", false) ∷ []))
    ≡ codes "HTTP/1.1 201 Created\r\ncontent-type: application/json\r\ncontent-length: 56\r\n\r\n{\"stored\":[{\"replaced\":false,\"uri\":\"https://ex.org/a\"}]}"
unfolding serde_json_on_literals digits is_utf8 chars phrase_of
some_stored = refl

an_entry_refused : reply_text false (refused_at 1 not_object)
    ≡ codes "HTTP/1.1 400 Bad Request\r\ncontent-type: application/json\r\ncontent-length: 40\r\n\r\n{\"entry\":1,\"fault\":6,\"name\":\"NotObject\"}"
unfolding serde_json_on_literals digits is_utf8 chars phrase_of
an_entry_refused = refl

-- the phrases are those of Rust's crate `http`
known_phrases : map {B = Option Text} (λ p. Some p.1) phrases ≡ map {B = Option Text} (λ p. reason_phrase p.0) phrases
known_phrases = refl
