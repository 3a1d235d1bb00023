-- What holds of a document that is put and not refused.
use Rattle.std.proofs.Common.{◌≡◌, suc, Bool, true, false, not, List, [], ◌∷◌, ◌++◌, length, nat_lt, Some, None, Contains, filter, Option, option_map, flat_map, Equal, sym, refl, ap, ◌∙◌, subst}
use Rattle.std.proofs.lemmas.Bool.{false_from_ne_true}
use Rattle.std.proofs.lemmas.Cmp.{nat_list_cmp_total, tied_itself}
use Rattle.std.specs.Cmp.Lexicographic.{slice_cmp, bytes_decides}
use Rattle.std.specs.List.{list_any}
use Rattle.std.specs.Ordering.{nat_cmp}
use Rattle.definitions.specs.Values.{Text, same_text, is_object, nesting}
use Rattle.definitions.specs.Lists.{has_repeat, option_list, first, when, unless}
use Rattle.definitions.specs.Faults.{Fault, bad_pattern, library_owned, taken, quota_documents, quota_bytes, not_object, too_nested, duplicate_uri, duplicate_anchor}
use Rattle.definitions.specs.Schemas.{Document, schemas_of, schema_at}
use Rattle.definitions.specs.Scanning.{scan_faults, same_anchor, anchors_of, subtree_faults}
use Rattle.definitions.specs.Limits.{limits}
use Rattle.definitions.specs.Reach.{holds_resource}
use Rattle.definitions.specs.Documents.{others_of, resources_of, taken_uri, bytes_of}
use Rattle.definitions.specs.Registries.{Registry, documents_seen, is_in_library, put_refusal}
use Rattle.definitions.specs.Searches.{Search, is_regular}
use Rattle.definition_laws.proofs.Membership.{nothing_in, in_filter}
use Rattle.definition_laws.proofs.Repeats.{none_of}
use Rattle.definition_laws.proofs.LeastTexts.{no_least}
use Rattle.definition_laws.proofs.Resources.{apart_from_held}

-- ---- no fault among several
pub first_none : {A : Type 0} (xs : List A) → first xs ≡ None → xs ≡ []
first_none [] e = refl
first_none (x ∷ xs) e = cc

pub neither : {A : Type 0} (xs ys : List A) → xs ++ ys ≡ [] → (xs ≡ []) × (ys ≡ [])
neither [] ys e = (refl, e)
neither (x ∷ xs) ys e = cc

pub when_none : (b : Bool) (f : Fault) → when b f ≡ [] → b ≡ false
when_none true f e = cc
when_none false f e = refl

not_taken : (o : Option Text) → option_list (option_map taken o) ≡ [] → o ≡ None
not_taken None e = refl
not_taken (Some u) e = cc

pub is_not : (b : Bool) → not b ≡ false → b ≡ true
is_not true e = refl
is_not false e = sym e

-- ---- nothing to refuse
-- what `put_refusal` has no fault in
pub record IsAccepted (search : Search) (g : Registry) (d : Document) (after : List Document) : Type 0 where
  pub scanned : scan_faults d.base d.value ≡ []
  pub regular : is_regular search d.value ≡ true
  pub unowned : is_in_library g d.canonical ≡ false
  pub free : taken_uri (documents_seen g) d ≡ None
  pub few : nat_lt g.most_documents (length after) ≡ false
  pub small : nat_lt g.most_bytes (bytes_of after) ≡ false

accepted_by : (faults : List Fault) (regular owned : Bool) (uri : Option Text) (many large : Bool)
    → first (faults ++ (when (not regular) bad_pattern ++ (when owned library_owned ++ (option_list (option_map taken uri) ++ (when many quota_documents ++ when large quota_bytes))))) ≡ None
    → (faults ≡ []) × ((regular ≡ true) × ((owned ≡ false) × ((uri ≡ None) × ((many ≡ false) × (large ≡ false)))))
accepted_by faults regular owned uri many large e =
    let one = neither faults _ (first_none _ e) in
    let two = neither (when (not regular) bad_pattern) _ one.1 in
    let three = neither (when owned library_owned) _ two.1 in
    let four = neither (option_list (option_map taken uri)) _ three.1 in
    let five = neither (when many quota_documents) _ four.1 in
    (one.0, (is_not regular (when_none (not regular) bad_pattern two.0), (when_none owned library_owned three.0, (not_taken uri four.0, (when_none many quota_documents five.0, when_none large quota_bytes five.1)))))

pub accepted : (search : Search) (g : Registry) (d : Document) (after : List Document) → put_refusal search g d after ≡ None → IsAccepted search g d after
accepted search g d after e =
    let parts = accepted_by (scan_faults d.base d.value) (is_regular search d.value) (is_in_library g d.canonical) (taken_uri (documents_seen g) d) (nat_lt g.most_documents (length after)) (nat_lt g.most_bytes (bytes_of after)) e in
    record { scanned = parts.0; regular = parts.1.0; unowned = parts.1.1.0; free = parts.1.1.1.0; few = parts.1.1.1.1.0; small = parts.1.1.1.1.1 }

-- the tests of a scan
pub record IsScanned (d : Document) : Type 0 where
  pub object : is_object d.value ≡ true
  pub shallow : nat_lt limits.schema_nesting (nesting d.value) ≡ false
  pub walk : subtree_faults (suc (nesting d.value)) d.base [] (schema_at d.base [] d.value) ≡ []
  pub uris : has_repeat same_text (resources_of d) ≡ false
  pub anchors : has_repeat same_anchor (flat_map anchors_of (schemas_of d.base d.value)) ≡ false

pub unless_none : (b : Bool) (f : Fault) → unless b f ≡ [] → b ≡ true
unless_none true f e = refl
unless_none false f e = cc

scanned_by : (object nested uris anchors : Bool) (walk : List Fault)
    → (unless object not_object ++ (when nested too_nested ++ walk)) ++ (when uris duplicate_uri ++ when anchors duplicate_anchor) ≡ []
    → (object ≡ true) × ((nested ≡ false) × ((walk ≡ []) × ((uris ≡ false) × (anchors ≡ false))))
scanned_by object nested uris anchors walk e =
    let both = neither (unless object not_object ++ (when nested too_nested ++ walk)) _ e in
    let form = neither (unless object not_object) (when nested too_nested ++ walk) both.0 in
    let rest = neither (when nested too_nested) walk form.1 in
    let names = neither (when uris duplicate_uri) (when anchors duplicate_anchor) both.1 in
    (unless_none object not_object form.0, (when_none nested too_nested rest.0, (rest.1, (when_none uris duplicate_uri names.0, when_none anchors duplicate_anchor names.1))))

pub scanned : (d : Document) → scan_faults d.base d.value ≡ [] → IsScanned d
scanned d e =
    let parts = scanned_by (is_object d.value) (nat_lt limits.schema_nesting (nesting d.value)) (has_repeat same_text (resources_of d))
    (has_repeat same_anchor (flat_map anchors_of (schemas_of d.base d.value))) (subtree_faults (suc (nesting d.value)) d.base [] (schema_at d.base [] d.value)) e in
    record { object = parts.0; shallow = parts.1.0; walk = parts.1.1.0; uris = parts.1.1.1.0; anchors = parts.1.1.1.1 }

-- none of its URIs is held by a document with another canonical URI
pub free_of_others : (ds : List Document) (d e : Document) → taken_uri ds d ≡ None → Contains ds e → (slice_cmp nat_cmp d.canonical e.canonical ≡ Equal → ⊥)
    → (u v : Text) → Contains (resources_of d) u → Contains (resources_of e) v → same_text u v ≡ false
free_of_others ds d e free c other =
    apart_from_held d e (λ u in_d.
    let untaken : list_any (holds_resource u) (others_of d.canonical ds) ≡ false =
    false_from_ne_true (list_any (holds_resource u) (others_of d.canonical ds)) (λ held.
    nothing_in u (subst (λ us. Contains us u)
    (no_least (filter (λ w. list_any (holds_resource w) (others_of d.canonical ds)) (resources_of d)) free)
    (in_filter (λ w. list_any (holds_resource w) (others_of d.canonical ds)) u (resources_of d) in_d held))) in
    none_of (holds_resource u) e (others_of d.canonical ds) untaken
    (in_filter (λ x. not (same_text d.canonical x.canonical)) e ds c (unlike (same_text d.canonical e.canonical) refl)))
  where
    unlike : (b : Bool) → same_text d.canonical e.canonical ≡ b → not b ≡ true
    unlike true same =
        absurd (other (ap (slice_cmp nat_cmp d.canonical) (sym ((bytes_decides d.canonical e.canonical).0 same)) ∙ tied_itself nat_list_cmp_total d.canonical))
    unlike false different = refl
