-- The head of a request: its limits, and what its fields say. The grammar is `httparse`'s (RFC 9112, sections 2 to 5).
use Rattle.std.specs.Prelude.{◌≤◌, ℕ, List, [], ◌∷◌, Bool, true, false, ◌&&◌, ◌||◌, Option, Some, None, option_and_then, if◌then◌else◌, length, nat_lt, nat_le, ◌==◌, map, filter, count_by, codes}
use Rattle.std.specs.List.{list_all, list_any, slice_split}
use Rattle.std.specs.Char.{is_ascii_digit}
use Rattle.std.specs.Str.{is_utf8, str_eq_ignore_ascii_case}
use Rattle.std.specs.Str.Parse.{digits_value}
use Rattle.httparse.specs.Ascii.{comma, line_feed}
use Rattle.httparse.specs.Grammar.{field_value, trim_ows, RequestHead, print_request}
use Rattle.definitions.specs.Values.{Text, entry}
use Rattle.definitions.specs.Limits.{limits}

-- ---- limits
abbrev pub most_head_bytes : ℕ
most_head_bytes = 16384

-- the first line, 64 fields and the empty line
abbrev pub most_line_feeds : ℕ
most_line_feeds = 66

abbrev pub most_length_digits : ℕ
most_length_digits = 7

abbrev pub line_feeds : Text → ℕ
line_feeds bytes = count_by (λ b. b == line_feed) bytes

abbrev pub IsSmall : RequestHead → Type 0
IsSmall h =
    (length (print_request h) ≤ most_head_bytes) × (line_feeds (print_request h) ≤ most_line_feeds)

-- ---- fields
-- the values of the fields with this name, in any case of its letters
abbrev pub values : Text → RequestHead → List Text
values name h = map field_value (filter (λ f. str_eq_ignore_ascii_case name f.name) h.fields)

-- ---- the body (RFC 9110, section 8.6; RFC 9112, section 6)
-- the methods that are known, and whether each has to tell its body's length
abbrev pub methods : List (Text × Bool)
methods =
    (codes "PUT", true) ∷ (codes "DELETE", false) ∷ (codes "POST", true) ∷ (codes "GET", false) ∷ []

abbrev pub is_length : Text → Bool
is_length t =
    nat_lt 0 (length t) && (nat_le (length t) most_length_digits
    && (list_all is_ascii_digit t && nat_le (digits_value 10 t) limits.body_bytes))

-- the length by the values of `content-length`, of which there may be one at most
abbrev pub length_by : List Text → Bool → Option ℕ
length_by [] must_tell = if must_tell then None else Some 0
length_by (t ∷ []) must_tell = if is_length t then Some (digits_value 10 t) else None
length_by (t ∷ u ∷ ts) must_tell = None

-- how long the body is that follows the head; none where the head is refused
abbrev pub body_length : RequestHead → Option ℕ
body_length h =
    if length (values (codes "transfer-encoding") h) == 0
    then option_and_then (length_by (values (codes "content-length") h)) (entry h.method methods)
    else None

-- ---- the end of the connection (RFC 9112, sections 9.3 and 9.6)
-- one part between commas is `close`
abbrev pub asks_to_close : Text → Bool
asks_to_close value =
    list_any (λ part. str_eq_ignore_ascii_case (codes "close") (trim_ows part))
    (slice_split (λ b. b == comma) value)

-- after its reply the connection is closed
abbrev pub is_last : RequestHead → Bool
is_last h = (h.minor == 0) || list_any asks_to_close (values (codes "connection") h)

-- ---- the tenant
abbrev pub first_text : List Text → Text
first_text [] = []
first_text (t ∷ ts) = if is_utf8 t then t else []

-- the tenant's key; the empty one is no tenant's
abbrev pub key_of : RequestHead → Text
key_of h = first_text (values (codes "x-tenant-key") h)
