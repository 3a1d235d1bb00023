-- Compound documents (JSON Schema 2020-12 Core, 9.3).
use Rattle.std.specs.Prelude.{List, [], ◌∷◌, ◌||◌, if◌then◌else◌, Option, Some, None, Result, Ok, Err, nat_lt, length, map, filter, is_some, unwrap_or, codes}
use Rattle.std.specs.Ordering.{nat_cmp, match_ordering}
use Rattle.std.specs.Cmp.Lexicographic.{slice_cmp}
use Rattle.definitions.specs.Limits.{Limits, limits}
use Rattle.definitions.specs.Values.{Text, Value, string, object, no_members, members, to_members, get, entry, nesting}
use Rattle.definitions.specs.Faults.{Fault, not_found, bundle_clash, bundle_too_large}
use Rattle.definitions.specs.Texts.{text}
use Rattle.definitions.specs.Schemas.{Document}
use Rattle.definitions.specs.Reach.{least}
use Rattle.definitions.specs.Documents.{document_of, others_of}

-- ---- members, in byte order of names
abbrev pub put_member : Text → Value → List (Text × Value) → List (Text × Value)
put_member n v [] = (n, v) ∷ []
put_member n v (m ∷ ms) = match_ordering (slice_cmp nat_cmp n m.0) ((n, v) ∷ m ∷ ms) ((n, v) ∷ ms) (m ∷ put_member n v ms)

abbrev pub with_member : Text → Value → Value → Value
with_member n v (object ms) = object (to_members (put_member n v (members (object ms))))
with_member n v w = w

-- ---- the root with each other document embedded in its `$defs` under its canonical URI, and no reference changed
-- the document's value with its canonical URI as `$id`
abbrev pub under_its_uri : Document → Value
under_its_uri d = with_member (codes "$id") (string d.canonical) d.value

abbrev pub members_with_documents : List Document → List (Text × Value) → List (Text × Value)
members_with_documents [] ms = ms
members_with_documents (d ∷ ds) ms = put_member d.canonical (under_its_uri d) (members_with_documents ds ms)

abbrev pub defs_of : Value → List (Text × Value)
defs_of v = members (unwrap_or (get (codes "$defs") v) (object no_members))

abbrev pub bundle_of : Document → List Document → Value
bundle_of root [] = under_its_uri root
bundle_of root (d ∷ ds) = with_member (codes "$defs") (object (to_members (members_with_documents (d ∷ ds) (defs_of root.value)))) (under_its_uri root)

-- the least canonical URI of the others that is a key of the root's `$defs` already
abbrev pub clash : Document → List Document → Option Text
clash root ds = least (filter (λ n. is_some (entry n (defs_of root.value))) (map (λ d. d.canonical) ds))

-- ---- with its limits
abbrev pub value_within_limits : Limits → Value → Result Value Fault
value_within_limits most v = if nat_lt most.bundle_bytes (length (text v)) || nat_lt most.bundle_nesting (nesting v) then Err bundle_too_large else Ok v

abbrev pub value_or_too_large : Value → Result Value Fault
value_or_too_large = value_within_limits limits

abbrev pub bundle_unless : Option Text → Document → List Document → Result Value Fault
bundle_unless (Some key) root ds = Err (bundle_clash key)
bundle_unless None root ds = value_or_too_large (bundle_of root ds)

abbrev pub bundle_from : Option Document → List Document → Result Value Fault
bundle_from None ds = Err not_found
bundle_from (Some root) ds = bundle_unless (clash root ds) root ds

-- of these documents, around the one with this canonical URI
abbrev pub bundle : List Document → Text → Result Value Fault
bundle ds uri = bundle_from (document_of ds uri) (others_of uri ds)
