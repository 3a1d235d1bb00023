-- A bundle that a registry replies answers alone as the registry does.
use Rattle.std.proofs.Common.{◌≡◌, ◌<◌, ◌≤◌, ◌++◌, List, [], ◌∷◌, Bool, true, false, cond, Option, Some, None, Result, Ok, Err, is_some, is_none, length, codes, refl, sym, ap, ap₂, subst, ◌∙◌, inl, inr}
use Rattle.std.specs.List.{flat_map, filter}
use Rattle.definitions.specs.Values.{Text, Value, same_text}
use Rattle.definitions.specs.Texts.{text}
use Rattle.definitions.specs.Faults.{Fault, not_found}
use Rattle.definitions.specs.Resolution.{base_form}
use Rattle.definitions.specs.Schemas.{Schema, Document, document_from, schemas_of, table_of, references}
use Rattle.definitions.specs.Lists.{option_list}
use Rattle.definitions.specs.Targets.{target}
use Rattle.definitions.specs.Reach.{holds_resource, references_in, reach_by_one, reach, missing_references, least}
use Rattle.definitions.specs.Bundles.{bundle}
use Rattle.definitions.specs.Documents.{document_of}
use Rattle.definitions.specs.Answers.{answer}
use Rattle.definitions.specs.Alike.{AreAlike}
use Rattle.definitions.specs.Registries.{Registry, documents_seen, Reply, put, validate, bundled, refused, for_base, for_value, body_value, unless_missing, linked_reply, outcome_reply, reply_of_bundle, validation, bundling_reply}
use Rattle.definitions.specs.Searches.{Search}
use Rattle.definitions.specs.Steps.{step}
use Rattle.definitions.specs.Tenants.{Tenant, empty_registry}
use Rattle.definition_laws.specs.Bundling.{AreWhole}
use Rattle.definition_laws.proofs.Occurrences.{IsIn, contains_from_in, in_flat_map, into_flat_map, found_in}
use Rattle.lemmas.proofs.Texts.{same_text_itself}
use Rattle.definition_laws.proofs.Targets.{alike_reference}
use Rattle.definition_laws.proofs.LeastTexts.{no_least}
use Rattle.definition_laws.proofs.StoredDocuments.{holds_itself}
use Rattle.definition_laws.proofs.Bundled.{bundle_corresponds, bundles_are_alike}
use Rattle.bundle_laws.specs.Standing.{IsBundle}
use Rattle.bundle_laws.specs.Served.{RepliedBundlesAnswerTheSame}
use Rattle.bundle_laws.proofs.RegisteredDocuments.{registered_documents_are_identified, identified_documents_are_whole}
use Rattle.bundle_laws.proofs.BaseTexts.{reached_documents_are_registered}
use Rattle.bundle_laws.proofs.Passing.{bundle_from_documents, bundles_stand_alone}
use Rattle.bundle_laws.proofs.StoredBundles.{bundles_are_stored}

-- ---- no reference of a bundle is missing
none_passes : {A : Type 0} (p : A → Bool) (xs : List A) → ((x : A) → IsIn x xs → p x ≡ false) → filter p xs ≡ []
none_passes p [] h = refl
none_passes p (x ∷ xs) h = rw (h x (inl refl)) (none_passes p xs (λ y i. h y (inr i)))

found_there : (o p : Option Schema) → is_some o ≡ true → AreAlike o p → is_none p ≡ false
found_there None p found alike = absurd (let no : false ≡ true = found in cc)
found_there (Some s) None found alike = absurd alike
found_there (Some s) (Some t) found alike = refl

bundle_linked : (ds : List Document) (uri base : Text) (v : Value) → AreWhole ds → bundle ds uri ≡ Ok v → missing_references (document_from base v ∷ []) ≡ []
bundle_linked ds uri base v whole e =
    let only : List Document = document_from base v ∷ [] in
    none_passes (λ r. is_none (target (table_of only) r)) (flat_map references_in only) (λ r i.
    let d = in_flat_map references_in only r i in
    let t = in_flat_map references (schemas_of (d.0).base (d.0).value) r d.2 in
    let held : IsIn t.0 (table_of only) = into_flat_map (λ c. schemas_of c.base c.value) only d.0 t.0 d.1 t.1 in
    let s = (bundle_corresponds ds uri base v whole e).back t.0 held in
    let same : references t.0 ≡ references s.0 =
    ap₂ (λ a b. option_list a ++ option_list b) (alike_reference (codes "$ref") s.0 t.0 refl (s.2).alike) (alike_reference (codes "$dynamicRef") s.0 t.0 refl (s.2).alike) in
    let there = (bundles_are_alike ds uri base v whole e).targets s.0 r (contains_from_in (table_of ds) s.0 s.1) (contains_from_in (references s.0) r (subst (IsIn r) same t.2)) in
    found_there (target (table_of ds) r) (target (table_of only) r) there.0 there.1)

-- ---- a registry of one document
reach_alone : (d : Document) (uri : Text) → holds_resource uri d ≡ true → reach (d ∷ []) uri ≡ d ∷ []
reach_alone d uri h =
    let first : filter (holds_resource uri) (d ∷ []) ≡ d ∷ [] = ap (λ b. cond b (d ∷ []) []) h in
    let again : reach_by_one (d ∷ []) (d ∷ []) ≡ d ∷ [] = rw (same_text_itself d.canonical) refl in
    ap (reach_by_one (d ∷ [])) first ∙ again

linked_is : (ds : List Document) (reply : Reply) → missing_references ds ≡ [] → (d : Document) → IsIn d ds → linked_reply ds reply ≡ reply
linked_is [] reply e d i = absurd i
linked_is (c ∷ ds) reply e d i = ap (λ rs. unless_missing (c ∷ ds) (least rs) reply) e

-- ---- what a reply with a bundle says
record IsReplied (ds : List Document) (uri bytes : Text) : Type 0 where
  value : Value
  none_missing : missing_references ds ≡ []
  is_made : bundle ds uri ≡ Ok value
  written : text value ≡ bytes

of_made : (ds : List Document) (uri bytes : Text) → missing_references ds ≡ [] → (r : Result Value Fault) → bundle ds uri ≡ r → reply_of_bundle r ≡ bundled bytes → IsReplied ds uri bytes
of_made ds uri bytes none (Ok v) e h = record { value = v; none_missing = none; is_made = e; written = cc }
of_made ds uri bytes none (Err f) e h = absurd (cc)

of_linked : (ds : List Document) (uri bytes : Text) → linked_reply ds (reply_of_bundle (bundle ds uri)) ≡ bundled bytes → IsReplied ds uri bytes
of_linked [] uri bytes h = absurd (cc)
of_linked (d ∷ ds) uri bytes h = by (least (missing_references (d ∷ ds))) refl h
  where
    by : (o : Option Text) → least (missing_references (d ∷ ds)) ≡ o → unless_missing (d ∷ ds) o (reply_of_bundle (bundle (d ∷ ds) uri)) ≡ bundled bytes → IsReplied (d ∷ ds) uri bytes
    by None e k = of_made (d ∷ ds) uri bytes (no_least (missing_references (d ∷ ds)) e) (bundle (d ∷ ds) uri) refl k
    by (Some r) e k = absurd (cc)

of_bundling : (b : Bool) (ds : List Document) (uri bytes : Text) → cond b (linked_reply ds (reply_of_bundle (bundle ds uri))) (refused not_found) ≡ bundled bytes → IsReplied ds uri bytes
of_bundling true ds uri bytes h = of_linked ds uri bytes h
of_bundling false ds uri bytes h = absurd (cc)

-- ---- the law
module _ (search : Search) (ds : List Document) (b : Text) (v : Value) (is : IsBundle search ds b v) (base : Text) where
  whole : AreWhole ds
  whole = identified_documents_are_whole search ds is.documents is.linked

  validated_same : (x : Value) → validation search b x (reach (document_from base v ∷ []) b) ≡ validation search b x ds
  validated_same x =
      let d : Document = document_from base v in
      let alone = bundles_stand_alone search ds b base v is in
      let from = bundle_from_documents search ds b v is in
      let holds : holds_resource b d ≡ true = subst (λ u. holds_resource u d ≡ true) alone.canonical (holds_itself base v) in
      ap (λ es. linked_reply es (outcome_reply (answer search.matches es b x))) (reach_alone d b holds)
      ∙ linked_is (d ∷ []) (outcome_reply (answer search.matches (d ∷ []) b x)) (bundle_linked ds b base v whole is.made) d (inl refl)
      ∙ ap outcome_reply (alone.answers search.matches x)
      ∙ sym (linked_is ds (outcome_reply (answer search.matches ds b x)) is.linked from.root (found_in (λ c. same_text b c.canonical) ds from.root from.found))

  values_same : (h g : Registry) (o : Result Value Fault)
      → (for_value h o (λ x. (validation search b x (reach (document_from base v ∷ []) b), h))).0 ≡ (for_value g o (λ x. (validation search b x ds, g))).0
  values_same h g (Ok x) = validated_same x
  values_same h g (Err f) = refl

answered_same : (search : Search) (g : Registry) (t : Tenant) (uri b at base body : Text) (v : Value) → base_form uri ≡ Ok b → IsBundle search (reach (documents_seen g) b) b v
    → base_form at ≡ Ok base → 0 < t.most_documents → length (text v) ≤ t.most_bytes
    → (step search (step search (empty_registry [] t) (put at (text v))).1 (validate uri body)).0 ≡ (step search g (validate uri body)).0
answered_same search g t uri b at base body v e is form few small =
    let h : Registry = record (empty_registry [] t) { documents = document_from base v ∷ [] } in
    ap (λ r. (step search r.1 (validate uri body)).0) (bundles_are_stored search (reach (documents_seen g) b) b at base v t is form few small)
    ∙ ap (λ o. (for_base h o (λ c. for_value h (body_value body) (λ x. (validation search c x (reach (document_from base v ∷ []) c), h)))).0) e
    ∙ values_same search (reach (documents_seen g) b) b v is base h g (body_value body)
    ∙ sym (ap (λ o. (for_base g o (λ c. for_value g (body_value body) (λ x. (validation search c x (reach (documents_seen g) c), g)))).0) e)

pub replied_bundles_answer_the_same : RepliedBundlesAnswerTheSame
replied_bundles_answer_the_same search g t uri at base bytes body registered replied form few small = by (base_form uri) refl replied
  where
    by : (o : Result Text Fault) → base_form uri ≡ o → (for_base g o (λ b. (bundling_reply b (reach (documents_seen g) b), g))).0 ≡ bundled bytes
        → (step search (step search (empty_registry [] t) (put at bytes)).1 (validate uri body)).0 ≡ (step search g (validate uri body)).0
    by (Err f) e h = absurd (cc)
    by (Ok b) e h =
        let ds : List Document = reach (documents_seen g) b in
        let r = of_bundling (is_some (document_of ds b)) ds b bytes h in
        let is : IsBundle search ds b r.value = record {
          documents = registered_documents_are_identified search (reach (documents_seen g) b) (reached_documents_are_registered search (documents_seen g) b registered);
          linked = r.none_missing;
          made = r.is_made;
        } in
        subst (λ bs. (step search (step search (empty_registry [] t) (put at bs)).1 (validate uri body)).0 ≡ (step search g (validate uri body)).0) r.written
        (answered_same search g t uri b at base body r.value e is form few (subst (λ bs. length bs ≤ t.most_bytes) (sym r.written) small))
