-- The example, cut at further places: within its first head, behind its first request and within its second body.
use Rattle.std.proofs.Common.{refl, inr, arith}
use Rattle.std.specs.Prelude.{◌≡◌, [], ◌∷◌, ◌++◌, true, false, codes}
use Rattle.std.specs.Fmt.{digits}
use Rattle.std.specs.Str.{is_utf8, chars}
use lib.Utf8.{encode}
use Rattle.httparse.proofs.OnLiterals.{httparse_on_literals}
use Rattle.percent_encoding.proofs.OnLiterals.{percent_encoding_on_literals}
use Rattle.serde_json.proofs.OnLiterals.{serde_json_on_literals}
use Rattle.definitions.specs.Values.{Text}
use Rattle.definitions.specs.Outcomes.{object_outcome, outcome}
use Rattle.definitions.specs.Registries.{stored}
use Rattle.http_definitions.specs.Streams.{IsWaiting}
use Rattle.http_definitions.specs.ReplyTexts.{phrase_of, closing_text}
use Rattle.http_definitions.specs.Connections.{Takes, holding, closed, last_words}
use Rattle.http_laws.proofs.Steps.{nothing_waits}
use Rattle.http_laws.proofs.HeadSizes.{part_has_none}
use Rattle.http_rows.proofs.Computed.{spells, begins_head_if}
use Rattle.http_rows.proofs.Written.{put_request, validate_request, put_text, stored_text}
use Rattle.http_rows.proofs.Taken.{by_key, empty, after_put, takes_and_holds, waits_for_body}

-- ---- nothing is answered within the first head
first_part : Text
first_part = codes "PUT /schemas?uri=https://ex.org/s HTTP/1.1\r\nx-tenant-key"

first_part_waits : IsWaiting first_part
unfolding first_part httparse_on_literals is_utf8 chars encode
first_part_waits =
    inr (
      part_has_none first_part (codes ": k1\r\ncontent-length: 2\r\n\r\n{}") put_request.head (codes "{}") (begins_head_if put_text put_request.head (codes "{}") refl).0 (omega arith),
      omega arith,
      omega arith,
    )

in_first_head : Takes by_key first_part empty [] (holding first_part) empty
unfolding first_part
in_first_head = takes_and_holds first_part [] [] first_part empty empty refl refl first_part_waits refl

-- ---- behind the first request nothing is held
first_spelled : spells put_text (put_request ∷ []) [] ≡ true
unfolding httparse_on_literals is_utf8 chars encode
first_spelled = refl

behind_first_request : Takes by_key put_text empty stored_text (holding []) after_put
unfolding httparse_on_literals percent_encoding_on_literals serde_json_on_literals digits is_utf8 chars encode object_outcome outcome phrase_of
behind_first_request =
    takes_and_holds put_text (put_request ∷ []) (stored (codes "https://ex.org/s") false ∷ []) [] empty after_put first_spelled refl nothing_waits (after_put, refl, refl)

-- ---- within the second body the first request is answered
second_part : Text
second_part = codes "POST /validate?uri=https://ex.org/s HTTP/1.1\r\nx-tenant-key: k1\r\ncontent-length: 4\r\n\r\nnul"

second_part_waits : IsWaiting second_part
unfolding second_part httparse_on_literals is_utf8 chars encode
second_part_waits = waits_for_body second_part validate_request.head (codes "nul") 4 refl refl (omega arith)

cut_in_second_body : spells (put_text ++ second_part) (put_request ∷ []) second_part ≡ true
unfolding second_part httparse_on_literals is_utf8 chars encode
cut_in_second_body = refl

in_second_body : Takes by_key (put_text ++ second_part) empty stored_text (holding second_part) after_put
unfolding second_part httparse_on_literals percent_encoding_on_literals serde_json_on_literals digits is_utf8 chars encode object_outcome outcome phrase_of
in_second_body =
    takes_and_holds (put_text ++ second_part) (put_request ∷ []) (stored (codes "https://ex.org/s") false ∷ []) second_part empty after_put
    cut_in_second_body refl second_part_waits (after_put, refl, refl)

ended_in_second_body : last_words (holding second_part) ≡ closing_text
unfolding second_part
ended_in_second_body = refl

-- a closed connection says nothing more
ended_when_closed : last_words closed ≡ []
ended_when_closed = refl
