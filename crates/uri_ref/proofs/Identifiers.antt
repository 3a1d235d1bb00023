-- An identifier resolves to itself, whatever the base.
use Rattle.std.proofs.Common.{◌≡◌, ◌==◌, true, not, ◌&&◌, ◌||◌, is_some, is_none, codes, ap}
use Rattle.std.proofs.lemmas.Bool.{and_parts, not-true}
use Rattle.std.specs.List.{list_any, slice_split}
use Rattle.definitions.specs.Uris.{Parts, begins, is_dot_segment, is_identifier}
use Rattle.definitions.specs.Resolution.{resolve}
use Rattle.uri_ref.proofs.Undotted.{undotted}

pub stays : (p : Parts) → is_identifier p ≡ true → (base : Parts) → resolve base p ≡ p
stays p h base =
    let dots = list_any is_dot_segment (slice_split (λ c. c == 47) p.path) in
    let whole = and_parts (is_some p.scheme && is_none p.fragment && not dots) (is_some p.authority || not (begins p.path (codes "//"))) h in
    let undot = and_parts (is_some p.scheme && is_none p.fragment) (not dots) whole.0 in
    let scheme : is_some p.scheme ≡ true = (and_parts (is_some p.scheme) (is_none p.fragment) undot.0).0 in
    rw scheme (ap (λ q. record p { path = q }) (undotted p.path (not-true dots undot.1)))
