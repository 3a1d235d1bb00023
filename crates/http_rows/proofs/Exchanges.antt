-- What a connection does with given bytes, over the registry of one tenant.
use Rattle.std.proofs.Common.{refl, inr, arith}
use Rattle.std.specs.Prelude.{◌≡◌, [], ◌∷◌, ◌++◌, true, false, codes}
use Rattle.std.specs.Fmt.{digits}
use Rattle.std.specs.Str.{is_utf8, chars}
use lib.Utf8.{encode}
use Rattle.httparse.proofs.OnLiterals.{httparse_on_literals}
use Rattle.percent_encoding.proofs.OnLiterals.{percent_encoding_on_literals}
use Rattle.serde_json.proofs.OnLiterals.{serde_json_on_literals}
use Rattle.definitions.specs.Values.{Text}
use Rattle.definitions.specs.Faults.{bad_route, unknown_tenant}
use Rattle.definitions.specs.Outcomes.{object_outcome, outcome}
use Rattle.definitions.specs.Registries.{stored, validated, refused}
use Rattle.http_definitions.specs.Streams.{IsWaiting}
use Rattle.http_definitions.specs.ReplyTexts.{phrase_of, closing_text}
use Rattle.http_definitions.specs.Connections.{Takes, holding, closed, last_words}
use Rattle.http_laws.proofs.Steps.{nothing_waits}
use Rattle.http_laws.proofs.HeadSizes.{part_has_none}
use Rattle.http_rows.proofs.Streams.{both_are_spelled}
use Rattle.http_rows.proofs.Computed.{spells, begins_head_if}
use Rattle.http_rows.proofs.Written.{message, put_request, validate_request, put_text, validate_text, stored_text, valid_text}
use Rattle.http_rows.proofs.Taken.{by_key, empty, after_put, takes_and_holds, takes_and_closes, waits_for_body}

-- ---- the example, whole and cut
whole : Takes by_key (put_text ++ validate_text) empty (stored_text ++ valid_text) (holding []) after_put
unfolding httparse_on_literals percent_encoding_on_literals serde_json_on_literals digits is_utf8 chars encode object_outcome outcome phrase_of
whole =
    takes_and_holds (put_text ++ validate_text) (put_request ∷ validate_request ∷ [])
    (stored (codes "https://ex.org/s") false ∷ validated (codes "{\"annotations\":[],\"valid\":true}") ∷ []) [] empty after_put
    both_are_spelled refl nothing_waits (after_put, refl, (after_put, refl, refl))

-- within the first body: nothing is answered yet
put_part : Text
put_part = codes "PUT /schemas?uri=https://ex.org/s HTTP/1.1\r\nx-tenant-key: k1\r\ncontent-length: 2\r\n\r\n{"

put_part_waits : IsWaiting put_part
unfolding put_part httparse_on_literals is_utf8 chars encode
put_part_waits = waits_for_body put_part put_request.head (codes "{") 2 refl refl (omega arith)

in_first_body : Takes by_key put_part empty [] (holding put_part) empty
unfolding put_part
in_first_body = takes_and_holds put_part [] [] put_part empty empty refl refl put_part_waits refl

-- within the second head: the first request is answered
head_part : Text
head_part = codes "POST /vali"

head_part_waits : IsWaiting head_part
unfolding head_part httparse_on_literals is_utf8 chars encode
head_part_waits =
    inr (
      part_has_none head_part (codes "date?uri=https://ex.org/s HTTP/1.1\r\nx-tenant-key: k1\r\ncontent-length: 4\r\n\r\nnull") validate_request.head (codes "null")
          (begins_head_if validate_text validate_request.head (codes "null") refl).0 (omega arith),
      omega arith,
      omega arith,
    )

cut_in_head : spells (put_text ++ head_part) (put_request ∷ []) head_part ≡ true
unfolding head_part httparse_on_literals is_utf8 chars encode
cut_in_head = refl

in_second_head : Takes by_key (put_text ++ head_part) empty stored_text (holding head_part) after_put
unfolding head_part httparse_on_literals percent_encoding_on_literals serde_json_on_literals digits is_utf8 chars encode object_outcome outcome phrase_of
in_second_head =
    takes_and_holds (put_text ++ head_part) (put_request ∷ []) (stored (codes "https://ex.org/s") false ∷ []) head_part empty after_put
    cut_in_head refl head_part_waits (after_put, refl, refl)

-- .. and the rest of it the second
rest_spelled : spells validate_text (validate_request ∷ []) [] ≡ true
unfolding httparse_on_literals is_utf8 chars encode
rest_spelled = refl

from_second_head : Takes by_key validate_text after_put valid_text (holding []) after_put
unfolding httparse_on_literals percent_encoding_on_literals serde_json_on_literals digits is_utf8 chars encode object_outcome outcome phrase_of
from_second_head =
    takes_and_holds validate_text (validate_request ∷ []) (validated (codes "{\"annotations\":[],\"valid\":true}") ∷ []) [] after_put after_put
    rest_spelled refl nothing_waits (after_put, refl, refl)

-- where the stream ends within a request the closing fault comes, behind a whole one nothing
ended_in_body : last_words (holding put_part) ≡ closing_text
unfolding put_part
ended_in_body = refl

ended_in_head : last_words (holding head_part) ≡ closing_text
unfolding head_part
ended_in_head = refl

ended_behind_a_request : last_words (holding []) ≡ []
ended_behind_a_request = refl

-- ---- a last request
-- the connection is closed behind the reply, and what follows is ignored
old_version_spelled : spells (codes "GET /bundle HTTP/1.0\r\n\r\n" ++ put_text) (message (codes "GET") (codes "/bundle") 0 [] [] ∷ []) put_text ≡ true
unfolding httparse_on_literals is_utf8 chars encode
old_version_spelled = refl

old_version : Takes by_key (codes "GET /bundle HTTP/1.0\r\n\r\n" ++ put_text) empty
    (codes "HTTP/1.1 404 Not Found\r\ncontent-type: application/json\r\ncontent-length: 30\r\nconnection: close\r\n\r\n{\"fault\":36,\"name\":\"BadRoute\"}")
    closed empty
unfolding httparse_on_literals percent_encoding_on_literals serde_json_on_literals digits is_utf8 chars encode phrase_of
old_version =
    takes_and_closes (codes "GET /bundle HTTP/1.0\r\n\r\n" ++ put_text) (message (codes "GET") (codes "/bundle") 0 [] [] ∷ []) (refused bad_route ∷ []) put_text
    empty empty old_version_spelled refl (empty, (refl, refl), refl)

-- ---- a request without a key
no_key_spelled : spells (codes "GET /bundle?uri=https://ex.org/s HTTP/1.1\r\n\r\n") (message (codes "GET") (codes "/bundle?uri=https://ex.org/s") 1 [] [] ∷ []) [] ≡ true
unfolding httparse_on_literals is_utf8 chars encode
no_key_spelled = refl

no_key : Takes by_key (codes "GET /bundle?uri=https://ex.org/s HTTP/1.1\r\n\r\n") empty
    (codes "HTTP/1.1 403 Forbidden\r\ncontent-type: application/json\r\ncontent-length: 35\r\n\r\n{\"fault\":24,\"name\":\"UnknownTenant\"}") (holding []) empty
unfolding httparse_on_literals percent_encoding_on_literals serde_json_on_literals digits is_utf8 chars encode phrase_of
no_key =
    takes_and_holds (codes "GET /bundle?uri=https://ex.org/s HTTP/1.1\r\n\r\n") (message (codes "GET") (codes "/bundle?uri=https://ex.org/s") 1 [] [] ∷ [])
    (refused unknown_tenant ∷ []) [] empty empty no_key_spelled refl nothing_waits (empty, refl, refl)
