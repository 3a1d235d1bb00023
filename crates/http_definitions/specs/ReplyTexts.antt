-- The bytes of replies (RFC 9112, sections 4 to 6).
use Rattle.std.specs.Prelude.{ℕ, [], ◌∷◌, ◌++◌, Bool, true, List, Option, Some, None, unwrap_or, option_to_list, option_map, length, if◌then◌else◌, ◌==◌, map, codes, decimal, pos}
use Rattle.std.specs.List.{list_all}
use Rattle.httparse.specs.Ascii.{crlf_bytes}
use Rattle.definitions.specs.Values.{Text, Value, boolean, integer, string, array, object, to_elements, to_members}
use Rattle.definitions.specs.Texts.{text}
use Rattle.definitions.specs.Faults.{Fault, number_of, name_of, carried_text, status_of, bad_request}
use Rattle.definitions.specs.Registries.{Reply, stored, deleted, validated, bundled, stored_all, refused, refused_at}

-- ---- bodies
abbrev pub stored_value : Text → Text × Bool → Value
stored_value name d =
    object (to_members ((codes "replaced", boolean d.1) ∷ (name, string d.0) ∷ []))

abbrev pub deleted_value : Text → Value
deleted_value uri = object (to_members ((codes "deleted", string uri) ∷ []))

abbrev pub stored_all_value : List (Text × Bool) → Value
stored_all_value ds =
    object (to_members ((codes "stored", array (to_elements (map (stored_value (codes "uri")) ds))) ∷ []))

-- a fault, and the entry of a batch that it is of
abbrev pub fault_value : Option ℕ → Fault → Value
fault_value entry f =
    object (to_members (option_to_list (option_map (λ at. (codes "at", string at)) (carried_text f))
    ++ (option_to_list (option_map (λ k. (codes "entry", integer (pos k))) entry)
    ++ ((codes "fault", integer (pos (number_of f))) ∷ (codes "name", string (name_of f)) ∷ []))))

-- ---- status and body
-- created where one is new
abbrev pub stored_status : List (Text × Bool) → ℕ
stored_status ds = if list_all (λ d. d.1) ds then 200 else 201

-- no request is refused by a fault that has no status
abbrev pub refused_status : Fault → ℕ
refused_status f = unwrap_or (status_of f) 400

abbrev pub status_and_body : Reply → ℕ × Text
status_and_body (stored uri replaced) =
    (stored_status ((uri, replaced) ∷ []), text (stored_value (codes "stored") (uri, replaced)))
status_and_body (deleted uri) = (200, text (deleted_value uri))
status_and_body (validated output) = (200, output)
status_and_body (bundled document) = (200, document)
status_and_body (stored_all ds) = (stored_status ds, text (stored_all_value ds))
status_and_body (refused f) = (refused_status f, text (fault_value None f))
status_and_body (refused_at k f) = (refused_status f, text (fault_value (Some k) f))

-- ---- the whole reply
abbrev pub line : Text → Text
line t = t ++ crlf_bytes

-- the statuses that replies have, and their phrases (RFC 9110, section 15)
abbrev pub phrases : List (ℕ × Text)
phrases =
    (200, codes "OK") ∷ (201, codes "Created") ∷ (400, codes "Bad Request") ∷ (403, codes "Forbidden")
    ∷ (404, codes "Not Found") ∷ (409, codes "Conflict") ∷ (503, codes "Service Unavailable") ∷ []

abbrev pub phrase_in : List (ℕ × Text) → ℕ → Text
phrase_in [] status = []
phrase_in (p ∷ ps) status = if status == p.0 then p.1 else phrase_in ps status

unfoldable pub phrase_of : ℕ → Text
phrase_of status = phrase_in phrases status

abbrev pub status_line : ℕ → Text
status_line status = line (codes "HTTP/1.1 " ++ (decimal status ++ (codes " " ++ phrase_of status)))

-- one after which the connection is closed says so
abbrev pub http_text : Bool → ℕ → Text → Text
http_text closes status body =
    status_line status
    ++ (line (codes "content-type: application/json")
    ++ (line (codes "content-length: " ++ decimal (length body))
    ++ ((if closes then line (codes "connection: close") else [])
    ++ (crlf_bytes ++ body))))

abbrev pub reply_text : Bool → Reply → Text
reply_text closes r = let x = status_and_body r in http_text closes x.0 x.1

-- what a connection past hope is told
abbrev pub closing_text : Text
closing_text = reply_text true (refused bad_request)
