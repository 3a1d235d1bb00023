-- The texts by which resources of linked documents are told.
use Rattle.std.proofs.Common.{◌≡◌, ◌<◌, ◌+◌, ◌++◌, ◌∷◌, [], ℕ, Bool, List, Option, Ordering, Some, None, String, Less, Equal, Greater, Contains, true, false, codes, cond, get_or, inl, inr, is_eq, is_some, length, map, nat_cmp, option_map, string_bytes, take, unwrap_or, refl, sym, ap, ◌∙◌, subst}
use Rattle.std.proofs.lemmas.List.{take_more}
use Rattle.std.proofs.lemmas.List.Elements.{Contains-append_left, Contains-append_right}
use Rattle.std.proofs.lemmas.Map.Lookups.{exact_bytes}
use Rattle.std.proofs.lemmas.Option.{get_or_from_slice_get, slice_get-get_or, slice_get_within}
use Rattle.std.specs.BTreeMap.{get_by_text, keys}
use Rattle.std.specs.Cmp.Lexicographic.{slice_cmp}
use Rattle.std.specs.Global.{Global}
use Rattle.std.specs.List.{flat_map, slice_get}
use Rattle.std.specs.Map.{keys_of, lookup}
use Rattle.std.specs.declared.rc.Rc.{Rc}
use Rattle.definitions.specs.Scanning.{resource_uris}
use Rattle.definitions.specs.Schemas.{Document, Schema, schemas_of}
use Rattle.definitions.specs.Values.{Text, text_at}
use Rattle.lemmas.proofs.Lists.{flat_map-push}
use Rattle.definition_laws.proofs.Occurrences.{IsIn, in_from_contains, contains_from_in, in_map}
use Rattle.definition_laws.proofs.Repeats.{from_flat_map, in_flat_map}
use Rattle.definition_laws.proofs.Resources.{root_opens}
use Rattle.schema_scan.proofs.Known.{identified-at}
use Rattle.schema_scan.specs.CompiledDocuments.{compiled_identifiers, compiled_schemas, compiled_view}
use Rattle.schema_scan.specs.declared.compiled.Compiled.{Compiled}
use Rattle.text_numbers.specs.TextNumbers.{AreNumbers, text_number}
use Rattle.schema_scan.specs.DynamicResources.{has_uri}
use Rattle.linker.specs.DocumentTexts.{identifying_texts}
use Rattle.linker.specs.DynamicTargets.{has_anchor}
use Rattle.linker.specs.LinkedDocuments.{linked_documents, linked_schemas}
use Rattle.linker.specs.NumberedTexts.{AreNumberedTexts, numbered_texts, texts_of_linked, number_of_text}
use Rattle.linker.specs.SharedDocuments.{shared_documents}
use Rattle.linker.specs.declared.linked.Linked.{Linked}
use Rattle.linker.specs.declared.linked_texts.LinkedTexts.{LinkedTexts}
use Rattle.linker.proofs.NamedSchemas.{anchored_there}
use Rattle.linker.proofs.StandingSchemas.{held_there}

abbrev Shared : Type 0
Shared = Rc Compiled Global

-- ---- one document more
pub texts_more : (ds : List Shared) (i : ℕ) (d : Shared) → i < length ds → d ≡ get_or ds i d
    → flat_map identifying_texts (take (i + 1) ds) ≡ flat_map identifying_texts (take i ds) ++ identifying_texts d
texts_more ds i d within is =
    ap (flat_map identifying_texts) (take_more ds i d within) ∙ flat_map-push identifying_texts (take i ds) (get_or ds i d)
    ∙ ap (λ x. flat_map identifying_texts (take i ds) ++ identifying_texts x) (sym is)

-- ---- the document of a schema, as it is shared
standing : (l : Linked) (s : Schema) → Contains (linked_schemas l) s → (d : Shared) × (Contains l.documents.items d × Contains (compiled_schemas d.value) s)
unfolding linked_documents shared_documents
standing l s inside =
    let view : Shared → Document = λ d. compiled_view d.value in
    let own = from_flat_map (λ (x : Document). schemas_of x.base x.value) s (linked_documents l) inside in
    let there = in_map view l.documents.items own.0 (in_from_contains (map view l.documents.items) own.0 own.1.0) in (
      there.0,
      (
        contains_from_in l.documents.items there.0 there.1,
        subst (λ (x : Document). Contains (schemas_of x.base x.value) s) (sym there.2) own.1.1,
      ),
    )

-- ---- its texts are among all
uri_among : (l : Linked) (s : Schema) → Contains (linked_schemas l) s → Contains (flat_map identifying_texts l.documents.items) s.resource
uri_among l s inside =
    let own = standing l s inside in
    let d = own.0.value in
    let opened : Contains (resource_uris (compiled_schemas d)) s.resource = root_opens (compiled_schemas d) s.resource (held_there s d s.resource own.1.1 refl) in
    in_flat_map identifying_texts own.0 s.resource l.documents.items own.1.0 (Contains-append_left (resource_uris (compiled_schemas d)) (compiled_identifiers d) s.resource opened)

id_among : (l : Linked) (s : Schema) (id : Text) → Contains (linked_schemas l) s → s.pointer ≡ [] → text_at (codes "$id") s.value ≡ Some id
    → Contains (flat_map identifying_texts l.documents.items) id
id_among l s id inside root has =
    let own = standing l s inside in
    let d = own.0.value in
    let at = identified-at d s id own.1.1 root has in
    let one : Contains (compiled_identifiers d) id = (at.0, slice_get_within (compiled_identifiers d) at.0 id at.1, get_or_from_slice_get (compiled_identifiers d) at.0 id id at.1) in
    in_flat_map identifying_texts own.0 id l.documents.items own.1.0 (Contains-append_right (resource_uris (compiled_schemas d)) (compiled_identifiers d) id one)

-- ---- a name of a dynamic anchor is one of the map's
some_of : {A : Type 0} (p : A → Bool) (o : Option A) → unwrap_or (option_map p o) false ≡ true → is_some o ≡ true
some_of p None e = absurd (cc)
some_of p (Some x) e = refl

named_in : {A : Type 0} (name : Text) (es : List (String Global × A)) → is_some (lookup (λ k. is_eq (slice_cmp nat_cmp name (string_bytes k))) es) ≡ true
    → IsIn name (map string_bytes (keys_of es))
named_in name [] e = absurd (cc)
named_in name (m ∷ es) e = by (slice_cmp nat_cmp name (string_bytes m.0)) refl (named_in name es) e
  where
    by : (o : Ordering) → slice_cmp nat_cmp name (string_bytes m.0) ≡ o
        → (is_some (lookup (λ k. is_eq (slice_cmp nat_cmp name (string_bytes k))) es) ≡ true → IsIn name (map string_bytes (keys_of es)))
        → is_some (cond (is_eq o) (Some m.1) (lookup (λ k. is_eq (slice_cmp nat_cmp name (string_bytes k))) es)) ≡ true → IsIn name (map string_bytes (keys_of (m ∷ es)))
    by Equal same rest there = inl (sym (exact_bytes name (string_bytes m.0) same))
    by Less other rest there = inr (rest there)
    by Greater other rest there = inr (rest there)

-- ---- so they are told their numbers
pub all_told : (l : Linked) (t : LinkedTexts) → map (λ x. x.now) t.texts.items ≡ flat_map identifying_texts l.documents.items ++ map string_bytes (keys l.dynamic_resources)
    → AreNumbers t.numbers (map (λ x. x.now) t.texts.items) → AreNumberedTexts l t
unfolding numbered_texts number_of_text texts_of_linked linked_documents
all_told l t same are = record {
  all = same;
  resources = λ s inside. told s.resource (Contains-append_left documents names s.resource (uri_among l s inside));
  identifiers = λ s id inside root has. told id (Contains-append_left documents names id (id_among l s id inside root has));
  anchors = λ name has. told name (Contains-append_right documents names name (contains_from_in names name (named_in name l.dynamic_resources.entries (known name has))));
}
  where
    documents : List Text
    documents = flat_map identifying_texts l.documents.items

    names : List Text
    names = map string_bytes (keys l.dynamic_resources)

    told : (text : Text) → Contains (documents ++ names) text → slice_get (map (λ x. x.now) t.texts.items) (text_number t.numbers text) ≡ Some text
    told text among =
        let c = subst (λ ts. Contains ts text) (sym same) among in
        are.found text c.0 (slice_get-get_or (map (λ x. x.now) t.texts.items) c.0 text c.1 ∙ ap Some c.2)

    known : (name : Text) → has_anchor (linked_schemas l) name ≡ true → is_some (get_by_text l.dynamic_resources name) ≡ true
    known name has =
        let there = anchored_there (linked_schemas l) name has in
        some_of (has_uri there.0) (get_by_text l.dynamic_resources name) (l.by_dynamic_anchor there.0 name ∙ there.1)
