-- A bundle's table is alike to that of the documents that it is made of.
use Rattle.std.proofs.Common.{◌≡◌, ◌==◌, ◌⊎◌, ◌||◌, List, [], ◌∷◌, Bool, true, false, cond, not, Option, Some, None, Ok, Err, is_some, nat_lt, length, map, refl, sym, ap, subst, ◌∙◌, inl, inr}
use Rattle.std.specs.List.{filter}
use Rattle.definitions.specs.Values.{Text, Value, entry, nesting, same_text}
use Rattle.definitions.specs.Texts.{text}
use Rattle.definitions.specs.Faults.{bundle_too_large}
use Rattle.definitions.specs.Schemas.{Schema, Document, document_from, table_of, is_root}
use Rattle.definitions.specs.Scanning.{resource_uris}
use Rattle.definitions.specs.Alike.{IsAlikeSchema}
use Rattle.definition_laws.proofs.Targets.{alike_resource, alike_pointer}
use Rattle.definitions.specs.Documents.{resources_of, document_of, others_of}
use Rattle.definitions.specs.Bundles.{defs_of, bundle_of, clash, value_or_too_large, bundle_unless, bundle_from, bundle}
use Rattle.definitions.specs.Limits.{limits}
use Rattle.lemmas.proofs.Texts.{same_text_itself, same_text_is}
use Rattle.definition_laws.specs.Identities.{IsDefinite}
use Rattle.definition_laws.specs.Bundling.{AreWhole, BundlesKeepTheirUri, BundlesKeepTheResources, BundlesAreDefinite, BundlesAreAlike, BundlesAnswerTheSame}
use Rattle.definition_laws.proofs.Occurrences.{IsIn, in_from_contains, contains_from_in, in_map, into_map, into_filter, from_filter, filter_passes, found_in, found_passes}
use Rattle.definition_laws.proofs.ReachedTables.{one_has, own_uri}
use Rattle.definition_laws.proofs.Extending.{Correspond, IsPrepared, prepared_alike, roots_alike}
use Rattle.definition_laws.proofs.AlikeTables.{alike_tables_answer_the_same}
use Rattle.definition_laws.proofs.BundledValues.{bundle_definite}
use Rattle.definition_laws.proofs.BundledDocuments.{root_schema, entry_found, IsApart, HaveOwnUris}
use Rattle.definition_laws.proofs.LeastTexts.{no_least}
use Rattle.definition_laws.proofs.MadeBundles.{own_root_in, IsMade, top_is, forth, back, prepared}

-- ---- what a bundle that is made says of its root and the others
sized_is : (w v : Value) → value_or_too_large w ≡ Ok v → v ≡ w
sized_is w v e = by (nat_lt limits.bundle_bytes (length (text w)) || nat_lt limits.bundle_nesting (nesting w)) e
  where
    by : (b : Bool) → cond b (Err bundle_too_large) (Ok w) ≡ Ok v → v ≡ w
    by true f = absurd (cc)
    by false f = cc

bundle_unless_is : (o : Option Text) (root : Document) (others : List Document) (v : Value) → bundle_unless o root others ≡ Ok v → (o ≡ None) × (v ≡ bundle_of root others)
bundle_unless_is None root others v e = (refl, sized_is (bundle_of root others) v e)
bundle_unless_is (Some key) root others v e = absurd (cc)

pub bundle_parts : (o : Option Document) (others : List Document) (v : Value) → bundle_from o others ≡ Ok v → (root : Document) × (o ≡ Some root) × ((clash root others ≡ None) × (v ≡ bundle_of root others))
bundle_parts None others v e = absurd (cc)
bundle_parts (Some root) others v e = (root, refl, bundle_unless_is (clash root others) root others v e)

no_clash : (root : Document) (others : List Document) → clash root others ≡ None → IsApart root others
no_clash root others e d i x j =
    let taken : IsIn d.canonical (filter (λ n. is_some (entry n (defs_of root.value))) (map (λ c. c.canonical) others)) =
    into_filter (λ n. is_some (entry n (defs_of root.value))) (map (λ c. c.canonical) others) d.canonical (into_map (λ c. c.canonical) others d i)
    (entry_found d.canonical x (defs_of root.value) j) in
    subst (IsIn d.canonical) (no_least (filter (λ n. is_some (entry n (defs_of root.value))) (map (λ c. c.canonical) others)) e) taken

own_uris : (ds : List Document) → AreWhole ds → HaveOwnUris ds
own_uris ds whole d e i j same =
    one_has same_text same_text_itself resources_of ds d e e.canonical whole.distinct i j (subst (λ u. IsIn u (resources_of d)) same (own d i)) (own e j)
  where
    own : (c : Document) → IsIn c ds → IsIn c.canonical (resources_of c)
    own c k = own_uri c (root_schema c.canonical c.value) (own_root_in c (whole.named c (contains_from_in ds c k)))

pub made_of : (ds : List Document) (uri : Text) (root : Document) → AreWhole ds → document_of ds uri ≡ Some root → clash root (others_of uri ds) ≡ None → IsMade ds root (others_of uri ds)
made_of ds uri root whole e none =
    let inside : IsIn root ds = found_in (λ d. same_text uri d.canonical) ds root e in
    let own : HaveOwnUris ds = own_uris ds whole in
    record {
      whole = whole;
      root_in = inside;
      others_in = λ d i. from_filter (λ c. not (same_text uri c.canonical)) ds d i;
      each = λ d i. by d i inside own (same_text uri d.canonical) refl;
      apart = no_clash root (others_of uri ds) none;
      own = own;
    }
  where
    by : (d : Document) → IsIn d ds → IsIn root ds → HaveOwnUris ds → (b : Bool) → same_text uri d.canonical ≡ b → (d ≡ root) ⊎ IsIn d (others_of uri ds)
    by d i inside own true f =
        inl (own d root i inside (sym (same_text_is uri d.canonical f) ∙ same_text_is uri root.canonical (found_passes (λ c. same_text uri c.canonical) ds root e)))
    by d i inside own false f = inr (into_filter (λ c. not (same_text uri c.canonical)) ds d i (ap not f))

uri_kept : (ds : List Document) (uri base : Text) (v : Value) → AreWhole ds → bundle ds uri ≡ Ok v → (document_from base v).canonical ≡ uri
uri_kept ds uri base v whole e =
    let parts = bundle_parts (document_of ds uri) (others_of uri ds) v e in
    let root : Document = parts.0 in
    let found : uri ≡ root.canonical = same_text_is uri root.canonical (found_passes (λ c. same_text uri c.canonical) ds root parts.1) in
    ap (λ w. (document_from base w).canonical) (parts.2).1
    ∙ ap (λ s. s.resource) (top_is ds root (others_of uri ds) (made_of ds uri root whole parts.1 (parts.2).0) base)
    ∙ sym found

pub bundle_corresponds : (ds : List Document) (uri base : Text) (v : Value) → AreWhole ds → bundle ds uri ≡ Ok v → Correspond (table_of ds) (table_of (document_from base v ∷ []))
bundle_corresponds ds uri base v whole e =
    let parts = bundle_parts (document_of ds uri) (others_of uri ds) v e in
    let root : Document = parts.0 in
    let made : IsMade ds root (others_of uri ds) = made_of ds uri root whole parts.1 (parts.2).0 in
    subst (λ w. Correspond (table_of ds) (table_of (document_from base w ∷ []))) (sym (parts.2).1)
    (record { forth = forth ds root (others_of uri ds) made base; back = back ds root (others_of uri ds) made base })

alike_sym : (s t : Schema) → IsAlikeSchema s t → IsAlikeSchema t s
alike_sym s t h = (sym h.0, sym h.1)

uris_over : (table other : List Schema) → ((s : Schema) → IsIn s table → (t : Schema) × IsIn t other × IsAlikeSchema s t) → (u : Text) → IsIn u (resource_uris table) → IsIn u (resource_uris other)
uris_over table other over u i =
    let s = in_map (λ r. r.resource) (filter is_root table) u i in
    let t = over s.0 (from_filter is_root table s.0 s.1) in
    let root : is_root t.0 ≡ true = ap (λ p. length p == 0) (alike_pointer s.0 t.0 t.2) ∙ filter_passes is_root table s.0 s.1 in
    subst (λ x. IsIn x (resource_uris other)) (alike_resource s.0 t.0 t.2 ∙ s.2) (into_map (λ r. r.resource) (filter is_root other) t.0 (into_filter is_root other t.0 t.1 root))

pub definite_made : (ds : List Document) (root : Document) (others : List Document) → IsMade ds root others → IsDefinite (bundle_of root others)
definite_made ds root others made =
    bundle_definite root others (made.whole.texts root (contains_from_in ds root made.root_in)) (made.whole.values root (contains_from_in ds root made.root_in))
    (λ d i. made.whole.texts d (contains_from_in ds d (made.others_in d i))) (λ d i. made.whole.values d (contains_from_in ds d (made.others_in d i)))

bundle_prepared : (ds : List Document) (uri base : Text) (v : Value) → AreWhole ds → bundle ds uri ≡ Ok v → IsPrepared ds (table_of (document_from base v ∷ []))
bundle_prepared ds uri base v whole e =
    let parts = bundle_parts (document_of ds uri) (others_of uri ds) v e in
    let root : Document = parts.0 in
    let made : IsMade ds root (others_of uri ds) = made_of ds uri root whole parts.1 (parts.2).0 in
    subst (λ w. IsPrepared ds (table_of (document_from base w ∷ []))) (sym (parts.2).1)
    (prepared ds root (others_of uri ds) made base (definite_made ds root (others_of uri ds) made))

-- ---- the laws
pub bundles_are_definite : BundlesAreDefinite
bundles_are_definite ds uri v whole e =
    let parts = bundle_parts (document_of ds uri) (others_of uri ds) v e in
    let root : Document = parts.0 in
    subst IsDefinite (sym (parts.2).1) (definite_made ds root (others_of uri ds) (made_of ds uri root whole parts.1 (parts.2).0))

pub bundles_are_alike : BundlesAreAlike
bundles_are_alike ds uri base v whole e = prepared_alike ds (table_of (document_from base v ∷ [])) (bundle_prepared ds uri base v whole e)

pub bundles_answer_the_same : BundlesAnswerTheSame
bundles_answer_the_same matches ds uri base v x whole e =
    alike_tables_answer_the_same matches ds (document_from base v ∷ []) uri x (bundles_are_alike ds uri base v whole e)
    (roots_alike ds (table_of (document_from base v ∷ [])) (bundle_prepared ds uri base v whole e) uri)

pub bundles_keep_their_uri : BundlesKeepTheirUri
bundles_keep_their_uri ds uri base v whole e = uri_kept ds uri base v whole e

pub bundles_keep_the_resources : BundlesKeepTheResources
bundles_keep_the_resources ds uri base v whole e u =
    let c = bundle_corresponds ds uri base v whole e in
    let table : List Schema = table_of ds in
    let other : List Schema = table_of (document_from base v ∷ []) in (
      λ i. contains_from_in (resource_uris table) u (uris_over other table (λ t j. let s = c.back t j in (s.0, s.1, alike_sym s.0 t (s.2).alike)) u (in_from_contains (resource_uris other) u i)),
      λ i. contains_from_in (resource_uris other) u (uris_over table other (λ s j. let t = c.forth s j in (t.0, t.1, (t.2).alike)) u (in_from_contains (resource_uris table) u i)),
    )
