-- A bundle by its root's value and the other documents.
use Rattle.std.proofs.Common.{◌≡◌, List, Option, Some, None, Err, is_some, not, nat_cmp, option_map, map, filter, find, refl, sym, ap, ap₂, subst, ◌∙◌}
use Rattle.std.specs.Cmp.Lexicographic.{slice_cmp}
use Rattle.std.specs.List.Sorted.{IsStrictlySortedBy}
use Rattle.definitions.specs.Values.{Text, Value, entry, same_text}
use Rattle.definitions.specs.Faults.{bundle_clash}
use Rattle.definitions.specs.Schemas.{Document}
use Rattle.definitions.specs.Documents.{Ascend, canonicals, document_of, others_of}
use Rattle.definitions.specs.Reach.{least}
use Rattle.definitions.specs.Bundles.{defs_of, bundle_of, clash, value_or_too_large, bundle_unless, bundle_from, bundle}
use Rattle.definition_laws.proofs.JoinedDocuments.{ascend_part}
use Rattle.definition_laws.proofs.Occurrences.{found_passes}
use Rattle.lemmas.proofs.Texts.{same_text_is}
use Rattle.bundler.specs.Constituents.{named_document, bare_document}
use Rattle.bundler.proofs.Others.{value_is, bare_canonicals, bare_bundle, first_is_least}

-- ---- the root
record IsRoot (ds : List Document) (uri : Text) (v : Value) : Type 0 where
  root : Document
  found : document_of ds uri ≡ Some root
  value : root.value ≡ v
  canonical : root.canonical ≡ uri

root_of : (ds : List Document) (uri : Text) (v : Value) → Some v ≡ option_map (λ d. d.value) (document_of ds uri) → IsRoot ds uri v
root_of ds uri v e = by (document_of ds uri) refl e
  where
    by : (o : Option Document) → document_of ds uri ≡ o → Some v ≡ option_map (λ d. d.value) o → IsRoot ds uri v
    by None f h = absurd (cc)
    by (Some d) f h = record {
      root = d;
      found = f;
      value = sym (value_is (Some d.value) v d.value h refl);
      canonical = sym (same_text_is uri d.canonical (found_passes (λ c. same_text uri c.canonical) ds d f));
    }

-- ---- the others
pub others_ascend : (ds : List Document) (uri : Text) (os : List Document) → Ascend ds → os ≡ map bare_document (others_of uri ds) → Ascend os
others_ascend ds uri os sorted is =
    subst Ascend (sym is) (subst (IsStrictlySortedBy (slice_cmp nat_cmp)) (sym (bare_canonicals (others_of uri ds)))
    (ascend_part (λ d. not (same_text uri d.canonical)) ds sorted))

-- ---- the bundle
abbrev first_clash : Value → List Document → Option Document
first_clash v os = find (λ d. is_some (entry d.canonical (defs_of v))) os

clash_is : (ds : List Document) (uri : Text) (root : Document) (os : List Document) → Ascend ds → os ≡ map bare_document (others_of uri ds)
    → clash root (others_of uri ds) ≡ option_map (λ d. d.canonical) (first_clash root.value os)
clash_is ds uri root os sorted is =
    let p = λ (n : Text). is_some (entry n (defs_of root.value)) in
    ap (λ us. least (filter p us)) (sym (bare_canonicals (others_of uri ds)) ∙ ap canonicals (sym is))
    ∙ first_is_least p os (others_ascend ds uri os sorted is)

bundle_by : (ds : List Document) (uri : Text) (v : Value) (os : List Document) → Ascend ds → (r : IsRoot ds uri v) → os ≡ map bare_document (others_of uri ds)
    → bundle ds uri ≡ bundle_unless (option_map (λ d. d.canonical) (first_clash v os)) r.root (others_of uri ds)
bundle_by ds uri v os sorted r is =
    ap (λ o. bundle_from o (others_of uri ds)) r.found
    ∙ ap (λ o. bundle_unless o r.root (others_of uri ds)) (clash_is ds uri r.root os sorted is ∙ ap (λ w. option_map (λ d. d.canonical) (first_clash w os)) r.value)

pub bundle_clashes : (ds : List Document) (uri : Text) (v : Value) (os : List Document) (d : Document) → Ascend ds → Some v ≡ option_map (λ d. d.value) (document_of ds uri)
    → os ≡ map bare_document (others_of uri ds) → Some d ≡ first_clash v os → bundle ds uri ≡ Err (bundle_clash d.canonical)
bundle_clashes ds uri v os d sorted e is found =
    let r = root_of ds uri v e in
    bundle_by ds uri v os sorted r is ∙ ap (λ o. bundle_unless (option_map (λ d. d.canonical) o) r.root (others_of uri ds)) (sym found)

pub bundle_sized : (ds : List Document) (uri : Text) (v : Value) (os : List Document) → Ascend ds → Some v ≡ option_map (λ d. d.value) (document_of ds uri)
    → os ≡ map bare_document (others_of uri ds) → None ≡ first_clash v os → bundle ds uri ≡ value_or_too_large (bundle_of (named_document uri v) os)
bundle_sized ds uri v os sorted e is none =
    let r = root_of ds uri v e in
    bundle_by ds uri v os sorted r is
    ∙ ap (λ o. bundle_unless (option_map (λ d. d.canonical) o) r.root (others_of uri ds)) (sym none)
    ∙ ap value_or_too_large (sym (bare_bundle r.root (others_of uri ds)) ∙ ap₂ (λ u w. bundle_of (named_document u w) (map bare_document (others_of uri ds))) r.canonical r.value ∙ ap (bundle_of (named_document uri v)) (sym is))
