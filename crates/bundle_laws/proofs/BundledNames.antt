-- The names in a bundle stand once, and its patterns are those of its documents.
use Rattle.std.proofs.Common.{◌≡◌, ◌<◌, ◌+◌, ◌++◌, ◌&&◌, ℕ, zero, suc, List, [], ◌∷◌, true, false, not, Some, Contains, refl, sym, ap, ap₂, subst, ◌∙◌, arith, inl, inr, true≢false}
use Rattle.std.proofs.lemmas.Bool.{and_parts, false_from_ne_true}
use Rattle.std.proofs.lemmas.List.Sorted.{IsPermutation-trans, IsPermutation-append_comm, Contains-permutation}
use Rattle.std.specs.Cmp.{IsEquivalence}
use Rattle.std.specs.List.{flat_map}
use Rattle.std.specs.List.Sorted.{IsPermutation}
use Rattle.definitions.specs.Values.{Text, Value, nesting, members, is_object, same_text}
use Rattle.definitions.specs.Lists.{has_repeat}
use Rattle.definitions.specs.Keywords.{keywords, shape_in}
use Rattle.definitions.specs.Schemas.{Schema, Document, below, at_place, subschemas_by, schema_at, schemas_of}
use Rattle.definitions.specs.Scanning.{resource_uris, anchors_of, same_anchor}
use Rattle.definitions.specs.Searches.{patterns_of, patterns, Search, is_regular}
use Rattle.definitions.specs.Bundles.{under_its_uri, bundle_of}
use Rattle.definitions.specs.Documents.{document_of, others_of, resources_of}
use Rattle.definition_laws.specs.Identities.{IsDefinite}
use Rattle.definition_laws.proofs.Occurrences.{IsIn, in_from_contains, contains_from_in, in_flat_map, into_flat_map, in_map, from_filter, filter_passes, all_pass_in, found_in, found_passes}
use Rattle.definition_laws.proofs.Places.{places, stepped, at_place_is, value-opened, value-below}
use Rattle.definition_laws.proofs.Repeats.{joined, cut, filtered}
use Rattle.definition_laws.proofs.NeighbourRepeats.{repeat_permuted}
use Rattle.lemmas.proofs.Booleans.{same_truth}
use Rattle.lemmas.proofs.Texts.{same_text_itself, same_text_is}
use Rattle.definition_laws.proofs.ReachedTables.{one_has, own_uri}
use Rattle.definition_laws.proofs.BundledDocuments.{root_schema, bundle_unbundled}
use Rattle.definition_laws.proofs.BundledValues.{under_definite}
use Rattle.definition_laws.proofs.MadeBundles.{own_root_is, own_root_in, IsMade, top_is}
use Rattle.bundle_laws.specs.Registered.{AreIdentified}
use Rattle.bundle_laws.proofs.RegisteredDocuments.{identified_scanned}
use Rattle.bundle_laws.proofs.Walks.{all_from}
use Rattle.definition_laws.proofs.ReachedSets.{same_text-back}
use Rattle.definition_laws.proofs.FlatMaps.{same_flat_map}
use Rattle.bundle_laws.proofs.Collected.{flat_mapped, flat_flat, collected, of_schemas}
use Rattle.bundle_laws.proofs.BundledLists.{IsCommon, root_uri, root_uri_common, anchors_common, patterns_common, uris_listed, AreUnlike, IsFit, bundle_moved}

-- ---- sameness of names
text_laws : IsEquivalence same_text
text_laws = record {
  refl = same_text_itself;
  symm = λ t u. same_truth (same_text t u) (same_text u t) (same_text-back t u) (same_text-back u t);
  congr = λ t u w h. ap (λ x. same_text x w) (same_text_is t u h);
}

anchor_laws : IsEquivalence same_anchor
anchor_laws = record {
  refl = λ a. ap₂ (λ x y. x && y) (same_text_itself a.0) (same_text_itself a.1);
  symm = λ a b. ap₂ (λ x y. x && y) (text_laws.symm a.0 b.0) (text_laws.symm a.1 b.1);
  congr = λ a b c h.
      let p = and_parts (same_text a.0 b.0) (same_text a.1 b.1) h in
      ap₂ (λ x y. x && y) (text_laws.congr a.0 b.0 c.0 p.0) (text_laws.congr a.1 b.1 c.1 p.1);
}

-- ---- the root before the others
abbrev uris_in : List Document → List Text
uris_in = flat_map resources_of

abbrev anchors_in : Document → List (Text × Text)
anchors_in d = flat_map anchors_of (schemas_of d.base d.value)

anchor_uri : (d : Document) (a : Text × Text) → IsIn a (anchors_in d) → IsIn a.0 (resources_of d)
anchor_uri d a i =
    let s = in_flat_map anchors_of (schemas_of d.base d.value) a i in
    let n = in_map (λ n. ((s.0).resource, n)) _ a s.2 in
    subst (λ u. IsIn u (resources_of d)) (ap (λ x. x.0) n.2) (own_uri d s.0 s.1)

anchors_clear : (ds : List Document) → ((d : Document) → IsIn d ds → has_repeat same_anchor (anchors_in d) ≡ false) → has_repeat same_text (uris_in ds) ≡ false
    → has_repeat same_anchor (flat_map anchors_in ds) ≡ false
anchors_clear [] own distinct = refl
anchors_clear (d ∷ ds) own distinct =
    let parts = cut same_text (resources_of d) (uris_in ds) distinct in
    joined same_anchor (anchors_in d) (flat_map anchors_in ds) (own d (inl refl)) (anchors_clear ds (λ e i. own e (inr i)) parts.behind)
    (λ a b c k.
    let i : IsIn a.0 (resources_of d) = anchor_uri d a (in_from_contains (anchors_in d) a c) in
    let e = in_flat_map anchors_in ds b (in_from_contains (flat_map anchors_in ds) b k) in
    let j : IsIn b.0 (uris_in ds) = into_flat_map resources_of ds e.0 b.0 e.1 (anchor_uri e.0 b e.2) in
    let apart : same_text a.0 b.0 ≡ false = parts.apart a.0 b.0 (contains_from_in (resources_of d) a.0 i) (contains_from_in (uris_in ds) b.0 j) in
    ap (λ x. x && same_text a.1 b.1) apart)

module _ (search : Search) (ds : List Document) (r : AreIdentified search ds) where
  own_in : (d : Document) → IsIn d ds → IsIn d.canonical (resources_of d)
  own_in d i = own_uri d (root_schema d.canonical d.value) (own_root_in d (r.kept.named d (contains_from_in ds d i)))

  one_of : (d e : Document) (u : Text) → IsIn d ds → IsIn e ds → IsIn u (resources_of d) → IsIn u (resources_of e) → d ≡ e
  one_of d e u = one_has same_text same_text_itself resources_of ds d e u r.kept.distinct

  -- documents of a part have names of their own
  unlike_in : (es : List Document) → ((d : Document) → IsIn d es → IsIn d ds) → has_repeat same_text (uris_in es) ≡ false → AreUnlike es
  unlike_in [] inside distinct = tt
  unlike_in (d ∷ es) inside distinct =
      let parts = cut same_text (resources_of d) (uris_in es) distinct in (
        λ e i same.
            let c : Contains (resources_of d) d.canonical = contains_from_in (resources_of d) d.canonical (own_in d (inside d (inl refl))) in
            let k : Contains (uris_in es) e.canonical = contains_from_in (uris_in es) e.canonical (into_flat_map resources_of es e e.canonical i (own_in e (inside e (inr i)))) in
            let other : same_text d.canonical e.canonical ≡ false = parts.apart d.canonical e.canonical c k in
            absurd (true≢false (sym (subst (λ u. same_text d.canonical u ≡ true) same (same_text_itself d.canonical)) ∙ other)),
        unlike_in es (λ e i. inside e (inr i)) parts.behind,
      )

  others_unlike : (uri : Text) → AreUnlike (others_of uri ds)
  others_unlike uri =
      unlike_in (others_of uri ds) (λ d i. from_filter (λ c. not (same_text uri c.canonical)) ds d i) (filtered same_text resources_of (λ c. not (same_text uri c.canonical)) ds r.kept.distinct)

  root_first : (uri : Text) (root : Document) → document_of ds uri ≡ Some root → has_repeat same_text (uris_in (root ∷ others_of uri ds)) ≡ false
  root_first uri root e =
      let inside : IsIn root ds = found_in (λ c. same_text uri c.canonical) ds root e in
      joined same_text (resources_of root) (uris_in (others_of uri ds)) (identified_scanned search ds r root (contains_from_in ds root inside)).uris
      (filtered same_text resources_of (λ c. not (same_text uri c.canonical)) ds r.kept.distinct)
      (λ t u c k. false_from_ne_true (same_text t u) (λ same.
      let d = in_flat_map resources_of (others_of uri ds) u (in_from_contains (uris_in (others_of uri ds)) u k) in
      let held : IsIn u (resources_of root) = subst (λ w. IsIn w (resources_of root)) (same_text_is t u same) (in_from_contains (resources_of root) t c) in
      let one : root ≡ d.0 = one_of root d.0 u inside (from_filter (λ x. not (same_text uri x.canonical)) ds d.0 d.1) held d.2 in
      let other : not (same_text uri root.canonical) ≡ true = subst (λ x. not (same_text uri x.canonical) ≡ true) (sym one) (filter_passes (λ x. not (same_text uri x.canonical)) ds d.0 d.1) in
      let own : same_text uri root.canonical ≡ true = found_passes (λ c. same_text uri c.canonical) ds root e in
      let no : false ≡ true = ap not (sym own) ∙ other in
      true≢false (sym no)))

  -- ---- how deep documents nest
  depth : List Document → ℕ
  depth [] = 0
  depth (d ∷ es) = suc (nesting d.value) + depth es

  within : (es : List Document) (d : Document) → IsIn d es → nesting d.value < depth es
  unfolding depth
  within [] d i = absurd i
  within (e ∷ es) d (inl same) = let equal : nesting e.value ≡ nesting d.value = ap (λ x. nesting x.value) same in omega arith
  within (e ∷ es) d (inr i) = let later : nesting d.value < depth es = within es d i in omega arith

  module _ (uri : Text) (root : Document) (made : IsMade ds root (others_of uri ds)) (base : Text) where
    abbrev v : Value
    v = bundle_of root (others_of uri ds)

    module _ {B : Type 0} (f : Schema → List B) (common : IsCommon f) where
      abbrev in_document : Document → List B
      in_document d = flat_map f (schemas_of d.base d.value)

      own_collected : (n : ℕ) (d : Document) → IsIn d ds → nesting d.value < n → collected f n (root_schema d.canonical d.value) ≡ in_document d
      own_collected n d i l =
          let same : nesting (schema_at d.base [] d.value).value ≡ nesting d.value = ap nesting (value-opened d.base [] d.value _) in
          ap (collected f n) (sym (own_root_is d (r.kept.named d (contains_from_in ds d i)))) ∙ sym (of_schemas f d.base d.value n (omega arith))

      pub lists_moved : IsPermutation (flat_map f (schemas_of base v)) (flat_map in_document (root ∷ others_of uri ds))
      lists_moved =
          let es : List Document = others_of uri ds in
          let n : ℕ = nesting v + depth (root ∷ es) in
          let top : nesting (schema_at base [] v).value ≡ nesting v = ap nesting (value-opened base [] v _) in
          let whole : flat_map f (schemas_of base v) ≡ collected f (suc n) (root_schema root.canonical v) =
          of_schemas f base v (suc n) (omega arith) ∙ ap (collected f (suc n)) (top_is ds root es made base) in
          let others : flat_map (λ d. collected f n (root_schema d.canonical d.value)) es ≡ flat_map in_document es =
          same_flat_map (λ d. collected f n (root_schema d.canonical d.value)) in_document es
          (λ d i. let small : nesting d.value < depth (root ∷ es) = within (root ∷ es) d (inr i) in own_collected n d (made.others_in d i) (omega arith)) in
          let first : collected f (suc n) (root_schema root.canonical root.value) ≡ in_document root =
          (let small : nesting root.value < depth (root ∷ es) = within (root ∷ es) root (inl refl) in own_collected (suc n) root made.root_in (omega arith)) in
          let fit : (d : Document) → IsIn d es → IsFit d = λ d i. record {
            shaped = made.whole.objects d (contains_from_in ds d (made.others_in d i));
            absolute = made.whole.absolute d (contains_from_in ds d (made.others_in d i));
          } in
          let definite : IsDefinite (under_its_uri root) =
          under_definite root (made.whole.texts root (contains_from_in ds root made.root_in)) (made.whole.values root (contains_from_in ds root made.root_in)) in
          let shaped : is_object root.value ≡ true = made.whole.objects root (contains_from_in ds root made.root_in) in
          let moved = bundle_moved f common n root es (others_unlike uri) made.apart shaped definite fit (refl, bundle_unbundled root es shaped) in
          subst (λ l. IsPermutation l (flat_map in_document (root ∷ es))) (sym whole)
          (IsPermutation-trans (collected f (suc n) (root_schema root.canonical v)) (flat_map in_document es ++ in_document root) (flat_map in_document (root ∷ es))
          (subst (λ l. IsPermutation (collected f (suc n) (root_schema root.canonical v)) l) (ap₂ (λ a b. a ++ b) others first) moved)
          (IsPermutation-append_comm (flat_map in_document es) (in_document root)))

    module _ (found : document_of ds uri ≡ Some root) where
      listed : (es : List Document) → flat_map (in_document root_uri root_uri_common) es ≡ uris_in es
      listed es = same_flat_map (in_document root_uri root_uri_common) resources_of es (λ d i. sym (uris_listed (schemas_of d.base d.value)))

      pub uris_once : has_repeat same_text (resource_uris (schemas_of base v)) ≡ false
      uris_once =
          ap (has_repeat same_text) (uris_listed (schemas_of base v))
          ∙ repeat_permuted same_text text_laws (flat_map root_uri (schemas_of base v)) (flat_map (in_document root_uri root_uri_common) (root ∷ others_of uri ds)) (lists_moved root_uri root_uri_common)
          ∙ ap (has_repeat same_text) (listed (root ∷ others_of uri ds))
          ∙ root_first uri root found

      pub anchors_once : has_repeat same_anchor (flat_map anchors_of (schemas_of base v)) ≡ false
      anchors_once =
          repeat_permuted same_anchor anchor_laws (flat_map anchors_of (schemas_of base v)) (flat_map anchors_in (root ∷ others_of uri ds)) (lists_moved anchors_of anchors_common)
          ∙ anchors_clear (root ∷ others_of uri ds) own (root_first uri root found)
        where
          own : (d : Document) → IsIn d (root ∷ others_of uri ds) → has_repeat same_anchor (anchors_in d) ≡ false
          own d (inl same) = subst (λ x. has_repeat same_anchor (anchors_in x) ≡ false) same (identified_scanned search ds r root (contains_from_in ds root made.root_in)).anchors
          own d (inr i) = (identified_scanned search ds r d (contains_from_in ds d (made.others_in d i))).anchors

-- ---- patterns hang on the values alone
by_value : (s : Schema) (n : ℕ) → flat_map (λ t. collected patterns_of n t.1) (subschemas_by keywords s)
    ≡ flat_map (λ m. flat_map (λ e. collected patterns_of n (below s (m.0 ∷ e.0) e.1)) (places m.1 (shape_in keywords m.0))) (members s.value)
by_value s n =
    flat_flat (λ t. collected patterns_of n t.1) (λ m. at_place s m.0 m.1 (shape_in keywords m.0)) (members s.value)
    ∙ same_flat_map (λ m. flat_map (λ t. collected patterns_of n t.1) (at_place s m.0 m.1 (shape_in keywords m.0)))
    (λ m. flat_map (λ e. collected patterns_of n (below s (m.0 ∷ e.0) e.1)) (places m.1 (shape_in keywords m.0))) (members s.value)
    (λ m i. ap (flat_map (λ t. collected patterns_of n t.1)) (at_place_is s m.0 m.1 (shape_in keywords m.0))
    ∙ flat_mapped (λ t. collected patterns_of n t.1) (stepped s m.0) (places m.1 (shape_in keywords m.0)))

patterns_by_value : (n : ℕ) (s t : Schema) → s.value ≡ t.value → collected patterns_of n s ≡ collected patterns_of n t
patterns_by_value zero s t e = refl
patterns_by_value (suc n) s t e =
    let over : Schema → List (Text × Value) → List Text = λ x ms. flat_map (λ m. flat_map (λ e. collected patterns_of n (below x (m.0 ∷ e.0) e.1)) (places m.1 (shape_in keywords m.0))) ms in
    ap₂ (λ a b. a ++ b) (ap (λ w. patterns_of (record t { value = w })) e)
    (by_value s n
    ∙ ap (λ w. over s (members w)) e
    ∙ same_flat_map (λ m. flat_map (λ e. collected patterns_of n (below s (m.0 ∷ e.0) e.1)) (places m.1 (shape_in keywords m.0)))
    (λ m. flat_map (λ e. collected patterns_of n (below t (m.0 ∷ e.0) e.1)) (places m.1 (shape_in keywords m.0))) (members t.value)
    (λ m i. same_flat_map (λ e. collected patterns_of n (below s (m.0 ∷ e.0) e.1)) (λ e. collected patterns_of n (below t (m.0 ∷ e.0) e.1)) (places m.1 (shape_in keywords m.0))
    (λ x j. patterns_by_value n (below s (m.0 ∷ x.0) x.1) (below t (m.0 ∷ x.0) x.1) (value-below s (m.0 ∷ x.0) x.1 ∙ sym (value-below t (m.0 ∷ x.0) x.1))))
    ∙ sym (by_value t n))

patterns_anywhere : (base : Text) (v : Value) → flat_map patterns_of (schemas_of base v) ≡ patterns v
patterns_anywhere base v =
    let a : nesting (schema_at base [] v).value ≡ nesting v = ap nesting (value-opened base [] v _) in
    let b : nesting (schema_at [] [] v).value ≡ nesting v = ap nesting (value-opened [] [] v _) in
    of_schemas patterns_of base v (suc (nesting v)) (omega arith)
    ∙ patterns_by_value (suc (nesting v)) (schema_at base [] v) (schema_at [] [] v) (value-opened base [] v _ ∙ sym (value-opened [] [] v _))
    ∙ sym (of_schemas patterns_of [] v (suc (nesting v)) (omega arith))

pub bundle_regular : (search : Search) (ds : List Document) (r : AreIdentified search ds) (uri : Text) (root : Document) → IsMade ds root (others_of uri ds)
    → is_regular search (bundle_of root (others_of uri ds)) ≡ true
bundle_regular search ds r uri root made = all_from search.reads (patterns (bundle_of root (others_of uri ds))) read
  where
    read : (t : Text) → IsIn t (patterns (bundle_of root (others_of uri ds))) → search.reads t ≡ true
    read t i =
        let moved = lists_moved search ds r uri root made [] patterns_of patterns_common in
        let there : Contains (flat_map (λ d. flat_map patterns_of (schemas_of d.base d.value)) (root ∷ others_of uri ds)) t =
        Contains-permutation (patterns (bundle_of root (others_of uri ds))) _ t moved (contains_from_in (patterns (bundle_of root (others_of uri ds))) t i) in
        let d = in_flat_map (λ d. flat_map patterns_of (schemas_of d.base d.value)) (root ∷ others_of uri ds) t (in_from_contains _ t there) in
        let inside : IsIn d.0 ds = elim d.1 [ inl same ↦ subst (λ x. IsIn x ds) same made.root_in | inr j ↦ made.others_in d.0 j ] in
        all_pass_in search.reads (patterns (d.0).value) t (r.kept.regular_patterns d.0 (contains_from_in ds d.0 inside))
        (subst (IsIn t) (patterns_anywhere (d.0).base (d.0).value) d.2)
