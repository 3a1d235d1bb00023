-- Identifiers, and the canonical URIs of documents.
use Rattle.std.proofs.Common.{◌≡◌, ◌==◌, ◌++◌, ◌&&◌, ◌||◌, [], ◌∷◌, Bool, true, false, not, cond, Option, Some, None, Result, Ok, Err, is_some, is_none, codes, refl, sym, ap, ap₂, subst, ◌∙◌, append_assoc, append-nil}
use Rattle.std.proofs.lemmas.Bool.{and_parts}
use Rattle.std.specs.List.{list_any, slice_split}
use Rattle.definitions.specs.Values.{Text, string, text_at}
use Rattle.definitions.specs.Faults.{Fault, bad_uri}
use Rattle.definitions.specs.Uris.{Parts, split, recompose, is_identifier, is_dot_segment, begins, led_by, ended_by, without_fragment}
use Rattle.definitions.specs.Lists.{cut_at}
use Rattle.definitions.specs.Resolution.{base_form, resolve, target_uri}
use Rattle.definitions.specs.Schemas.{opened_schema}
use Rattle.definitions.specs.Scanning.{is_empty_fragment, is_id}
use Rattle.lemmas.proofs.Options.{none_from_is_none}
use Rattle.uri_ref.specs.Soundness.{AreSound}
use Rattle.uri_ref.proofs.Based.{based}
use Rattle.uri_ref.proofs.Identifiers.{stays}
use Rattle.uri_ref.proofs.Missing.{Misses, cut_misses, cut_apart}
use Rattle.uri_ref.proofs.Recomposed.{cut_joined, recomposes}
use Rattle.uri_ref.proofs.Sound.{split_sound, resolve_sound}
use Rattle.uri_ref.proofs.Unique as unique
use Rattle.definition_laws.specs.Keeping.{IsBaseForm}
use Rattle.bundle_laws.specs.Identifying.{IdentifiersAreAbsolute, CanonicalUrisAreIdentifiers}
use Rattle.bundle_laws.proofs.Scans.{id_faultless}

-- ---- an identifier has a scheme and no fragment, and is a base as it stands
record IsWhole (p : Parts) : Type 0 where
  scheme : is_some p.scheme ≡ true
  no_fragment : p.fragment ≡ None

whole_of : (p : Parts) → is_identifier p ≡ true → IsWhole p
whole_of p h =
    let dots = list_any is_dot_segment (slice_split (λ c. c == 47) p.path) in
    let whole = and_parts (is_some p.scheme && is_none p.fragment && not dots) (is_some p.authority || not (begins p.path (codes "//"))) h in
    let front = and_parts (is_some p.scheme && is_none p.fragment) (not dots) whole.0 in
    let both = and_parts (is_some p.scheme) (is_none p.fragment) front.0 in
    record { scheme = both.0; no_fragment = none_from_is_none p.fragment both.1 }

pub form_of_identifier : (base : Text) → is_identifier (split base) ≡ true → base_form base ≡ Ok base
form_of_identifier base h =
    let p = split base in
    let whole = whole_of p h in
    based base p p refl (ap is_some whole.no_fragment) whole.scheme (sym (stays p h p)) h ∙ ap Ok (recomposes base)

abbrev bare : Parts → Parts
bare p = record p { fragment = None }

bare_itself : (p : Parts) → p.fragment ≡ None → bare p ≡ p
bare_itself p e = ap (λ f. record p { fragment = f }) (sym e)

-- a text without a fragment is what stands before it
uncut : (t : Text) → (split t).fragment ≡ None → (cut_at (λ c. c == 35) t).0 ≡ t
uncut t e =
    let cut = cut_at (λ c. c == 35) t in
    sym (append-nil cut.0) ∙ ap (λ o. cut.0 ++ led_by (35 ∷ []) o) (sym e) ∙ cut_joined 35 t

resolves_to_itself : (base uri : Text) → is_identifier (split uri) ≡ true → target_uri base uri ≡ uri
resolves_to_itself base uri h = ap recompose (stays (split uri) h (split base)) ∙ recomposes uri

pub identifiers_are_absolute : IdentifiersAreAbsolute
identifiers_are_absolute uri h base = ap without_fragment (resolves_to_itself base uri h) ∙ uncut uri (whole_of (split uri) h).no_fragment

-- so it may stand as an `$id` anywhere
pub identifier_id : (base uri : Text) → is_identifier (split uri) ≡ true → is_id base (string uri) ≡ true
identifier_id base uri h =
    let p = split uri in
    let none = (whole_of p h).no_fragment in
    let whole : is_identifier (bare (resolve (split base) p)) ≡ true = ap (λ q. is_identifier (bare q)) (stays p h (split base)) ∙ ap is_identifier (bare_itself p none) ∙ h in
    ap₂ (λ f b. is_empty_fragment f && b) none whole

-- ---- base forms
pub form_parts : (b c : Bool) (t base : Text) → cond {A = Result Text Fault} b (Err bad_uri) (cond {A = Result Text Fault} c (Ok t) (Err bad_uri)) ≡ Ok base → (c ≡ true) × (t ≡ base)
form_parts true c t base e = cc
form_parts false true t base e = (refl, cc)
form_parts false false t base e = cc

pub base_identifier : (base : Text) → IsBaseForm base → is_identifier (split base) ≡ true
base_identifier base h =
    let p = split h.uri in
    let q = resolve p p in
    let parts = form_parts (is_some p.fragment || is_none p.scheme) (is_identifier q) (recompose q) base h.is in
    let back : split (recompose q) ≡ q = unique.identified q (resolve_sound p p (split_sound h.uri) (split_sound h.uri)) parts.0 in
    subst (λ t. is_identifier (split t) ≡ true) parts.1 (ap is_identifier back ∙ parts.0)

-- ---- what a reference resolves to, without its fragment
joined_last : (a b c d f : Text) → a ++ (b ++ (c ++ (d ++ f))) ≡ (a ++ (b ++ (c ++ (d ++ [])))) ++ f
joined_last a b c d f = simp (append_assoc, append-nil)

bare_text : (p : Parts) → AreSound p → is_identifier (bare p) ≡ true → without_fragment (recompose p) ≡ recompose (bare p)
bare_text p sound h =
    let t = recompose (bare p) in
    let own : AreSound (bare p) = record { scheme = sound.scheme; authority = sound.authority; path = sound.path; rooted = sound.rooted; query = sound.query } in
    let back : split t ≡ bare p = unique.identified (bare p) own h in
    let whole : (cut_at (λ c. c == 35) t).0 ≡ t = uncut t (ap (λ q. q.fragment) back) in
    let misses : Misses (λ c. c == 35) t = subst (Misses (λ c. c == 35)) whole (cut_misses 35 t) in
    ap without_fragment (joined_last (ended_by p.scheme (codes ":")) (led_by (codes "//") p.authority) p.path (led_by (codes "?") p.query) (led_by (codes "#") p.fragment)) ∙ ap (λ r. r.0) (cut_apart 35 t p.fragment misses)

id_identifier : (base id : Text) → is_id base (string id) ≡ true → is_identifier (split (without_fragment (target_uri base id))) ≡ true
id_identifier base id h =
    let p = resolve (split base) (split id) in
    let sound : AreSound p = resolve_sound (split base) (split id) (split_sound base) (split_sound id) in
    let own : AreSound (bare p) = record { scheme = sound.scheme; authority = sound.authority; path = sound.path; rooted = sound.rooted; query = sound.query } in
    let identifier : is_identifier (bare p) ≡ true = (and_parts (is_empty_fragment ((split id).fragment)) (is_identifier (bare p)) h).1 in
    ap (λ t. is_identifier (split t)) (bare_text p sound identifier) ∙ ap is_identifier (unique.identified (bare p) own identifier) ∙ identifier

pub canonical_uris_are_identifiers : CanonicalUrisAreIdentifiers
canonical_uris_are_identifiers base v form e = by (text_at (codes "$id") v) refl
  where
    by : (o : Option Text) → text_at (codes "$id") v ≡ o → is_identifier (split (opened_schema base [] v o).resource) ≡ true
    by None f = base_identifier base form
    by (Some id) f = id_identifier base id (id_faultless base v id e f)
