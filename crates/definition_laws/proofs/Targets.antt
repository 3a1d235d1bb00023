-- References of alike schemas name alike schemas of the table.
use Rattle.std.proofs.Common.{◌≡◌, ◌++◌, List, [], ◌∷◌, Bool, true, false, cond, Option, Some, None, Result, Ok, Err, option_map, option_and_then, unwrap_or, codes, refl, ap, ap₂, inl, inr}
use Rattle.definitions.specs.Values.{Text, Value, same_text, as_string, get}
use Rattle.definitions.specs.Alike.{unbundled_value, IsAlikeSchema, AreAlike}
use Rattle.definitions.specs.Faults.{Fault}
use Rattle.definitions.specs.Fragments.{Fragment, no_fragment, tokens, plain_name}
use Rattle.definitions.specs.Pointers.{Pointer}
use Rattle.definitions.specs.Resolution.{target_uri}
use Rattle.definitions.specs.Schemas.{Schema, schema_at, below, identity, reference_at, references}
use Rattle.definitions.specs.Lists.{option_list}
use Rattle.definitions.specs.Targets.{is_dynamic_anchor, target, fragment_of, schema_with_dynamic_anchor, outermost, dynamic_by, dynamic_target}
use Rattle.definition_laws.proofs.Occurrences.{IsIn, in_left, in_right}
use Rattle.definition_laws.proofs.Unbundled.{is_changed, get_alike}

-- ---- alike schemas
pub alike_resource : (s t : Schema) → IsAlikeSchema s t → t.resource ≡ s.resource
alike_resource s t h = ap (λ x. x.0) h.0

pub alike_pointer : (s t : Schema) → IsAlikeSchema s t → t.pointer ≡ s.pointer
alike_pointer s t h = ap (λ x. x.1) h.0

pub equal_alike : (s t : Schema) → t ≡ s → IsAlikeSchema s t
equal_alike s t e = (ap identity e, ap (λ x. unbundled_value x.value) e)

pub below_alike : (s t : Schema) (way : Pointer) (v : Value) → IsAlikeSchema s t → below t way v ≡ below s way v
below_alike s t way v h = ap₂ (λ r p. schema_at r (p ++ way) v) (alike_resource s t h) (alike_pointer s t h)

pub alike_get : (name : Text) (s t : Schema) → is_changed name ≡ false → IsAlikeSchema s t → get name t.value ≡ get name s.value
alike_get name s t k h = get_alike name s.value t.value k h.1

pub alike_reference : (name : Text) (s t : Schema) → is_changed name ≡ false → IsAlikeSchema s t → reference_at name t ≡ reference_at name s
alike_reference name s t k h = ap₂ (λ r o. option_map (target_uri r) (option_and_then as_string o)) (alike_resource s t h) (alike_get name s t k h)

alike_dynamic_anchor : (name : Text) (s t : Schema) → IsAlikeSchema s t → is_dynamic_anchor name t ≡ is_dynamic_anchor name s
alike_dynamic_anchor name s t h = ap (λ o. unwrap_or (option_map (same_text name) (option_and_then as_string o)) false) (alike_get (codes "$dynamicAnchor") s t refl h)

-- ---- nothing, or a schema of the table and one that is alike
abbrev pub AlikeIn : List Schema → Option Schema → Option Schema → Type 0
AlikeIn table None None = Unit {0}
AlikeIn table (Some s) (Some t) = IsIn s table × IsAlikeSchema s t
AlikeIn table _ _ = ⊥

pub alike_in : (table : List Schema) (o p : Option Schema) → AreAlike o p → ((s : Schema) → o ≡ Some s → IsIn s table) → AlikeIn table o p
alike_in table None None h held = tt
alike_in table None (Some t) h held = h
alike_in table (Some s) None h held = h
alike_in table (Some s) (Some t) h held = (held s refl, h)

-- what each URI of the scope has under a dynamic anchor
abbrev pub AnchorsAlike : List Schema → List Schema → List Text → Type 0
AnchorsAlike table other scope = (uri : Text) → IsIn uri scope → (name : Text) → AlikeIn table (schema_with_dynamic_anchor table uri name) (schema_with_dynamic_anchor other uri name)

outermost_alike : (table other : List Schema) (scope : List Text) (name : Text) (s t : Schema) → AnchorsAlike table other scope → IsIn s table × IsAlikeSchema s t
    → IsIn (outermost table scope name s) table × IsAlikeSchema (outermost table scope name s) (outermost other scope name t)
outermost_alike table other [] name s t h k = k
outermost_alike table other (uri ∷ scope) name s t h k =
    by (schema_with_dynamic_anchor table uri name) (schema_with_dynamic_anchor other uri name) (h uri (inl refl) name) (outermost_alike table other scope name s t (λ u i. h u (inr i)) k)
  where
    by : (o p : Option Schema) → AlikeIn table o p → IsIn (outermost table scope name s) table × IsAlikeSchema (outermost table scope name s) (outermost other scope name t)
        → IsIn (unwrap_or o (outermost table scope name s)) table × IsAlikeSchema (unwrap_or o (outermost table scope name s)) (unwrap_or p (outermost other scope name t))
    by None None a rest = rest
    by None (Some u) a rest = absurd a
    by (Some r) None a rest = absurd a
    by (Some r) (Some u) a rest = a

dynamic_by_alike : (table other : List Schema) (scope : List Text) (s t : Schema) (f : Result Fragment Fault) → AnchorsAlike table other scope → IsIn s table × IsAlikeSchema s t
    → IsIn (dynamic_by table scope s f) table × IsAlikeSchema (dynamic_by table scope s f) (dynamic_by other scope t f)
dynamic_by_alike table other scope s t (Ok no_fragment) h k = k
dynamic_by_alike table other scope s t (Ok (tokens way)) h k = k
dynamic_by_alike table other scope s t (Err e) h k = k
dynamic_by_alike table other scope s t (Ok (plain_name n)) h k =
    by (is_dynamic_anchor n s) (is_dynamic_anchor n t) (alike_dynamic_anchor n s t k.1) (outermost_alike table other scope n s t h k)
  where
    by : (a b : Bool) → b ≡ a → IsIn (outermost table scope n s) table × IsAlikeSchema (outermost table scope n s) (outermost other scope n t)
        → IsIn (cond a (outermost table scope n s) s) table × IsAlikeSchema (cond a (outermost table scope n s) s) (cond b (outermost other scope n t) t)
    by true true e far = far
    by true false e far = absurd (cc)
    by false true e far = absurd (cc)
    by false false e far = k

pub dynamic_alike : (table other : List Schema) (scope : List Text) (text : Text) → AnchorsAlike table other scope → AlikeIn table (target table text) (target other text)
    → AlikeIn table (dynamic_target table scope text) (dynamic_target other scope text)
dynamic_alike table other scope text h k = by (target table text) (target other text) k
  where
    by : (o p : Option Schema) → AlikeIn table o p
        → AlikeIn table (option_map (λ s. dynamic_by table scope s (fragment_of text)) o) (option_map (λ t. dynamic_by other scope t (fragment_of text)) p)
    by None None a = tt
    by None (Some t) a = a
    by (Some s) None a = a
    by (Some s) (Some t) a = dynamic_by_alike table other scope s t (fragment_of text) h a

-- ---- by the two references of a schema
pub referred_alike : (table : List Schema) (find other : Text → Option Schema) (o : Option Text) → ((r : Text) → o ≡ Some r → AlikeIn table (find r) (other r))
    → AlikeIn table (option_and_then find o) (option_and_then other o)
referred_alike table find other None h = tt
referred_alike table find other (Some r) h = h r refl

listed : (o : Option Text) (r : Text) → o ≡ Some r → IsIn r (option_list o)
listed None r e = absurd (cc)
listed (Some q) r e = inl cc

pub static_reference : (s : Schema) (r : Text) → reference_at (codes "$ref") s ≡ Some r → IsIn r (references s)
static_reference s r e = in_left _ _ r (listed (reference_at (codes "$ref") s) r e)

pub dynamic_reference : (s : Schema) (r : Text) → reference_at (codes "$dynamicRef") s ≡ Some r → IsIn r (references s)
dynamic_reference s r e = in_right (option_list (reference_at (codes "$ref") s)) _ r (listed (reference_at (codes "$dynamicRef") s) r e)
