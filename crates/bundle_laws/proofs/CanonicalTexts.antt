-- Base forms and canonical URIs are in UTF-8.
use Rattle.std.proofs.Common.{◌≡◌, ◌||◌, [], true, Option, Some, None, Ok, is_some, is_none, codes, refl, subst, arith}
use Rattle.std.proofs.lemmas.Str.{IsUtf8-from_is_utf8, is_utf8-from_IsUtf8}
use Rattle.std.specs.Str.{IsUtf8, is_utf8}
use Rattle.definitions.specs.Values.{Text, string, get, text_at}
use Rattle.definitions.specs.Uris.{split, recompose, is_identifier}
use Rattle.definitions.specs.Resolution.{resolve, target_uri, base_form}
use Rattle.definitions.specs.Schemas.{opened_schema}
use Rattle.definition_laws.proofs.Applying.{get_in}
use Rattle.definition_laws.proofs.BatchValues.{text_value}
use Rattle.definition_laws.proofs.Places.{definite_members}
use Rattle.bundle_laws.specs.Identifying.{CanonicalUrisAreTexts}
use Rattle.bundle_laws.proofs.Identified.{form_parts}
use Rattle.bundle_laws.proofs.Utf8Parts.{split_texts, recompose_text, cut_texts}
use Rattle.bundle_laws.proofs.Utf8Resolution.{resolve_texts}

resolved_text : (base reference : Text) → IsUtf8 base → IsUtf8 reference → IsUtf8 (target_uri base reference)
resolved_text base reference u v =
    recompose_text (resolve (split base) (split reference)) (resolve_texts (split base) (split reference) (split_texts base u) (split_texts reference v))

-- the base form of a URI in UTF-8
pub base_form_text : (uri base : Text) → is_utf8 uri ≡ true → base_form uri ≡ Ok base → is_utf8 base ≡ true
base_form_text uri base u e =
    let p = split uri in
    let q = resolve p p in
    let parts = form_parts (is_some p.fragment || is_none p.scheme) (is_identifier q) (recompose q) base e in
    let own = IsUtf8-from_is_utf8 uri u in
    subst (λ t. is_utf8 t ≡ true) parts.1 (is_utf8-from_IsUtf8 (recompose q) (resolved_text uri uri own own))

pub canonical_uris_are_texts : CanonicalUrisAreTexts
canonical_uris_are_texts base v u d = by (text_at (codes "$id") v) refl
  where
    by : (o : Option Text) → text_at (codes "$id") v ≡ o → is_utf8 (opened_schema base [] v o).resource ≡ true
    by None e = u
    by (Some id) e =
        let inside = get_in (codes "$id") v (string id) (text_value (get (codes "$id") v) id e) in
        let text : is_utf8 id ≡ true = (definite_members v (codes "$id") (string id) d inside).well_formed in
        let whole = resolved_text base id (IsUtf8-from_is_utf8 base u) (IsUtf8-from_is_utf8 id text) in
        is_utf8-from_IsUtf8 _ (cut_texts 35 (omega arith) (target_uri base id) whole).0
