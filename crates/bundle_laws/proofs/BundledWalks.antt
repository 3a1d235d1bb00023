-- No keyword of a schema in a bundle has a fault.
use Rattle.std.proofs.Common.{◌≡◌, ◌<◌, ℕ, zero, suc, List, [], ◌∷◌, Bool, true, false, Option, Some, None, unwrap_or, codes, refl, sym, ap, subst, ◌∙◌, arith, inl, inr}
use Rattle.std.proofs.lemmas.Bool.{and_parts}
use Rattle.std.specs.List.{list_all}
use Rattle.definitions.specs.Values.{Text, Value, string, object, no_members, nesting, members, get, is_object, same_text}
use Rattle.definitions.specs.Faults.{bad_id, bad_keyword}
use Rattle.definitions.specs.Pointers.{Pointer, pointer_text}
use Rattle.definitions.specs.Shapes.{is_schema, is_schema_map}
use Rattle.definitions.specs.Keywords.{keywords, keyword_named}
use Rattle.definitions.specs.Schemas.{Schema, Document, schema_at}
use Rattle.definitions.specs.Scanning.{is_id, keyword_faults}
use Rattle.definitions.specs.Bundles.{under_its_uri, members_with_documents, defs_of, bundle_of}
use Rattle.definitions.specs.Searches.{Search}
use Rattle.definition_laws.specs.Identities.{IsDefinite}
use Rattle.definition_laws.proofs.Occurrences.{IsIn, contains_from_in, all_pass_in}
use Rattle.definition_laws.proofs.Places.{value-opened, members_once, IsStep}
use Rattle.lemmas.proofs.Texts.{same_text_is}
use Rattle.definition_laws.proofs.Applying.{get_in}
use Rattle.definition_laws.proofs.MembersPut.{put_in, put_from, members_with, is_object-with}
use Rattle.definition_laws.proofs.BundledDocuments.{root_schema, step_moved, under_had, under_unbundled, bundle_had, bundle_unbundled, unlike, new_defs, members-new, members-bundle, embedded_from}
use Rattle.definition_laws.proofs.BundledValues.{under_definite}
use Rattle.definition_laws.proofs.Bundled.{definite_made}
use Rattle.definition_laws.proofs.MadeBundles.{own_root_is, IsMade, embedded_is}
use Rattle.bundle_laws.specs.Registered.{AreIdentified}
use Rattle.definition_laws.proofs.AcceptedDocuments.{unless_none}
use Rattle.bundle_laws.proofs.Walks.{all_from, unless_true, under_base, under_other, id_alone, HasNoFault, IsFaultless, faultless_deeper}
use Rattle.bundle_laws.proofs.Scans.{scanned_faultless}
use Rattle.bundle_laws.proofs.Identified.{identifier_id}
use Rattle.bundle_laws.proofs.RegisteredDocuments.{identified_scanned}

object_schema : (v : Value) → is_object v ≡ true → is_schema v ≡ true
object_schema v h = rw h refl

module _ (search : Search) (ds : List Document) (r : AreIdentified search ds) where
  -- ---- the documents
  faultless_in : (n : ℕ) (d : Document) → IsIn d ds → IsFaultless n d.base (root_schema d.canonical d.value)
  faultless_in n d i =
      let c = contains_from_in ds d i in
      let top : Schema = schema_at d.base [] d.value in
      let same : nesting top.value ≡ nesting d.value = ap nesting (value-opened d.base [] d.value _) in
      let near : nesting top.value < suc (nesting d.value) = omega arith in
      subst (IsFaultless n d.base) (own_root_is d (r.kept.named d c)) (faultless_deeper (suc (nesting d.value)) n d.base top near (scanned_faultless d.base d.value (r.kept.scanned d c)))

  object_in : (d : Document) → IsIn d ds → is_object d.value ≡ true
  object_in d i = (identified_scanned search ds r d (contains_from_in ds d i)).object

  identifier_in : (base : Text) (d : Document) → IsIn d ds → is_id base (string d.canonical) ≡ true
  identifier_in base d i = identifier_id base d.canonical (r.identifiers d (contains_from_in ds d i))

  -- ---- a document under its URI
  under_members : (base : Text) (d : Document) → IsIn d ds → IsDefinite (under_its_uri d) → HasNoFault base (root_schema d.canonical (under_its_uri d))
  under_members base d i definite n x j far = by (same_text n (codes "$id")) refl
    where
      s : Schema
      s = root_schema d.canonical (under_its_uri d)

      by : (b : Bool) → same_text n (codes "$id") ≡ b → keyword_faults (keyword_named n keywords) base far (root_schema d.canonical (under_its_uri d)) x ≡ []
      by true e =
          let name : n ≡ codes "$id" = same_text_is n (codes "$id") e in
          let own : IsIn (codes "$id", string d.canonical) (members (under_its_uri d)) =
          subst (IsIn (codes "$id", string d.canonical)) (sym (members_with (codes "$id") (string d.canonical) d.value (object_in d i))) (put_in (codes "$id") (string d.canonical) (members d.value)) in
          let value : x ≡ string d.canonical = members_once (under_its_uri d) (codes "$id") x (string d.canonical) definite (subst (λ m. IsIn (m, x) (members (under_its_uri d))) name j) own in
          subst (λ m. keyword_faults (keyword_named m keywords) base far (root_schema d.canonical (under_its_uri d)) x ≡ []) (sym name)
          (subst (λ y. keyword_faults (keyword_named (codes "$id") keywords) base far (root_schema d.canonical (under_its_uri d)) y ≡ []) (sym value)
          (unless_true (is_id base (string d.canonical)) bad_id (identifier_in base d i)))
      by false e =
          elim (put_from (codes "$id") (string d.canonical) (members d.value) (n, x) (subst (IsIn (n, x)) (members_with (codes "$id") (string d.canonical) d.value (object_in d i)) j)) [
            | inl f ↦ absurd (unlike n (codes "$id") e (sym (ap (λ y. y.0) f)))
            | inr k ↦
                under_other (keyword_named n keywords) d.base base far far (root_schema d.canonical d.value) (root_schema d.canonical (under_its_uri d)) x
                (λ row f h. unlike n (codes "$id") e (id_alone n row f h)) refl ((faultless_in 1 d i).0 n x k far)
          ]

  pub under_faultless : (n : ℕ) (base : Text) (d : Document) → IsIn d ds → IsDefinite (under_its_uri d) → IsFaultless n base (root_schema d.canonical (under_its_uri d))
  under_faultless zero base d i definite = tt
  under_faultless (suc n) base d i definite = (
    under_members base d i definite,
    λ t way step.
        (faultless_in (suc n) d i).1 t way
        (step_moved (root_schema d.canonical d.value) (root_schema d.canonical (under_its_uri d)) t way (refl, under_unbundled d (object_in d i)) step
        (under_had d (object_in d i) step.name step.rest step.part (step.value, step.inside, step.place))),
  )

  -- ---- the schemas under `$defs`
  old_schema : (root : Document) → IsIn root ds → (o : Option Value) → get (codes "$defs") root.value ≡ o → (m : Text × Value) → IsIn m (members (unwrap_or o (object no_members))) → is_schema m.1 ≡ true
  old_schema root i None e m j = absurd j
  old_schema root i (Some y) e m j =
      let right : is_schema_map y ≡ true =
      unless_none (is_schema_map y) (bad_keyword (pointer_text [])) ((faultless_in 1 root i).0 (codes "$defs") y (get_in (codes "$defs") root.value y e) []) in
      all_pass_in (λ k. is_schema k.1) (members y) m (and_parts (is_object y) (list_all (λ k. is_schema k.1) (members y)) right).1 j

  new_schema : (root : Document) → IsIn root ds → (others : List Document) → ((d : Document) → IsIn d others → IsIn d ds)
      → (m : Text × Value) → IsIn m (members_with_documents others (defs_of root.value)) → is_schema m.1 ≡ true
  new_schema root i others inside m j =
      elim (embedded_from others (defs_of root.value) m j) [
        | inl e ↦
            let d : Document = e.0 in
            subst (λ v. is_schema v ≡ true) (ap (λ y. y.1) e.2)
            (object_schema (under_its_uri d) (is_object-with (codes "$id") (string d.canonical) d.value (object_in d (inside d e.1))))
        | inr k ↦ old_schema root i (get (codes "$defs") root.value) refl m k
      ]

  defs_faultless : (root : Document) → IsIn root ds → (others : List Document) → ((d : Document) → IsIn d others → IsIn d ds) → is_schema_map (new_defs root others) ≡ true
  defs_faultless root i others inside =
      ap (λ ms. list_all (λ m. is_schema m.1) ms) (members-new root others) ∙ all_from (λ m. is_schema m.1) (members_with_documents others (defs_of root.value)) (new_schema root i others inside)

  -- ---- the bundle
  under_root : (root : Document) (others : List Document) → IsMade ds root others → IsDefinite (under_its_uri root)
  under_root root others made =
      under_definite root (made.whole.texts root (contains_from_in ds root made.root_in)) (made.whole.values root (contains_from_in ds root made.root_in))

  bundle_members : (root d : Document) (es : List Document) → IsMade ds root (d ∷ es) → (base : Text) → HasNoFault base (root_schema root.canonical (bundle_of root (d ∷ es)))
  bundle_members root d es made base n x j far = by (same_text n (codes "$defs")) refl
    where
      by : (b : Bool) → same_text n (codes "$defs") ≡ b → keyword_faults (keyword_named n keywords) base far (root_schema root.canonical (bundle_of root (d ∷ es))) x ≡ []
      by true e =
          let name : n ≡ codes "$defs" = same_text_is n (codes "$defs") e in
          let own : IsIn (codes "$defs", new_defs root (d ∷ es)) (members (bundle_of root (d ∷ es))) =
          subst (IsIn (codes "$defs", new_defs root (d ∷ es))) (sym (members-bundle root d es (object_in root made.root_in)))
          (put_in (codes "$defs") (new_defs root (d ∷ es)) (members (under_its_uri root))) in
          let value : x ≡ new_defs root (d ∷ es) =
          members_once (bundle_of root (d ∷ es)) (codes "$defs") x (new_defs root (d ∷ es)) (definite_made ds root (d ∷ es) made) (subst (λ m. IsIn (m, x) (members (bundle_of root (d ∷ es)))) name j) own in
          subst (λ m. keyword_faults (keyword_named m keywords) base far (root_schema root.canonical (bundle_of root (d ∷ es))) x ≡ []) (sym name)
          (subst (λ y. keyword_faults (keyword_named (codes "$defs") keywords) base far (root_schema root.canonical (bundle_of root (d ∷ es))) y ≡ []) (sym value)
          (unless_true (is_schema_map (new_defs root (d ∷ es))) (bad_keyword (pointer_text far)) (defs_faultless root made.root_in (d ∷ es) made.others_in)))
      by false e =
          elim (put_from (codes "$defs") (new_defs root (d ∷ es)) (members (under_its_uri root)) (n, x) (subst (IsIn (n, x)) (members-bundle root d es (object_in root made.root_in)) j)) [
            | inl f ↦ absurd (unlike n (codes "$defs") e (sym (ap (λ y. y.0) f)))
            | inr k ↦
                under_base (keyword_named n keywords) base far far (root_schema root.canonical (under_its_uri root)) (root_schema root.canonical (bundle_of root (d ∷ es))) x refl
                (under_members base root made.root_in (under_root root (d ∷ es) made) n x k far)
          ]

  pub bundle_faultless : (root : Document) (others : List Document) → IsMade ds root others → (n : ℕ) (base : Text) → IsFaultless n base (root_schema root.canonical (bundle_of root others))
  bundle_faultless root [] made n base = under_faultless n base root made.root_in (under_root root [] made)
  bundle_faultless root (d ∷ es) made zero base = tt
  bundle_faultless root (d ∷ es) made (suc n) base = (bundle_members root d es made base, steps)
    where
      steps : (t : Schema) (way : Pointer) → IsStep keywords (root_schema root.canonical (bundle_of root (d ∷ es))) t way → IsFaultless n root.canonical t
      steps t way step =
          elim (bundle_had root (d ∷ es) (object_in root made.root_in) step.name step.rest step.part (step.value, step.inside, step.place)) [
            | inl held ↦
                (faultless_in (suc n) root made.root_in).1 t way
                (step_moved (root_schema root.canonical root.value) (root_schema root.canonical (bundle_of root (d ∷ es))) t way
                (refl, bundle_unbundled root (d ∷ es) (object_in root made.root_in)) step held)
            | inr e ↦
                let inside = made.others_in e.0 e.1 in
                let it : t ≡ root_schema (e.0).canonical (under_its_uri e.0) =
                step.is ∙ ap (λ p. schema_at root.canonical way p) e.3 ∙ embedded_is ds root (d ∷ es) made base e.0 inside way in
                let definite : IsDefinite (under_its_uri e.0) =
                under_definite e.0 (made.whole.texts e.0 (contains_from_in ds e.0 inside)) (made.whole.values e.0 (contains_from_in ds e.0 inside)) in
                subst (IsFaultless n root.canonical) (sym it) (under_faultless n root.canonical e.0 inside definite)
          ]
