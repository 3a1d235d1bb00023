-- The fields that a parser found, by their names.
use Rattle.std.specs.Prelude.{◌≡◌, ◌≤◌, ◌<◌, ℕ, List, [], ◌∷◌, Option, Some, None, Bool, map, filter, length, drop, codes, if◌then◌else◌, ◌==◌}
use Rattle.std.specs.Str.{str_eq_ignore_ascii_case}
use Rattle.httparse.specs.Spans.{span_bytes, IsWithin}
use Rattle.httparse.specs.declared.spans.HeaderSpan.{HeaderSpan}
use Rattle.definitions.specs.Values.{Text}
use Rattle.http_definitions.specs.Heads.{length_by}
use Rattle.request_heads.specs.declared.fields.Named.{Named}

-- the values of the fields with this name, in any case of its letters
abbrev pub values_at : Text → Text → List HeaderSpan → List Text
values_at name window headers =
    map (λ h. span_bytes window h.value)
    (filter (λ h. str_eq_ignore_ascii_case name (span_bytes window h.name)) headers)

-- the next field with this name from a place on, and none stands between
pub record IsNamed (name window : Text) (headers : List HeaderSpan) (from : ℕ) (x : Named) : Type 0 where
  pub later : from < x.behind
  pub inside : x.behind ≤ length headers
  pub value : IsWithin (length window) x.value
  pub values : values_at name window (drop from headers) ≡ span_bytes window x.value ∷ values_at name window (drop x.behind headers)

abbrev pub first_of_values : List Text → Option Text
first_of_values [] = None
first_of_values (v ∷ vs) = Some v

-- how long the body is by the fields; none where they refuse the head
abbrev pub body_length_at : Text → List HeaderSpan → Bool → Option ℕ
body_length_at window headers must_tell =
    if length (values_at (codes "transfer-encoding") window headers) == 0
    then length_by (values_at (codes "content-length") window headers) must_tell
    else None
