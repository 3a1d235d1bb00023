-- The table of a bundle corresponds to that of the documents that it is made of.
use Rattle.std.proofs.Common.{◌≡◌, ◌⊎◌, List, [], ◌∷◌, Bool, true, false, cond, Option, Some, None, is_some, map, option_and_then, unwrap_or, codes, refl, sym, ap, subst, ◌∙◌, inl, inr}
use Rattle.definitions.specs.Values.{Text, Value, string, object, no_members, members, to_members, entry, get, as_string, text_at, is_object, same_text}
use Rattle.definitions.specs.Alike.{unbundled_value, IsAlikeSchema}
use Rattle.definitions.specs.Pointers.{Pointer}
use Rattle.definitions.specs.Keywords.{keywords, shape_in}
use Rattle.definitions.specs.Schemas.{Schema, Document, opened_schema, schema_at}
use Rattle.definitions.specs.Bundles.{put_member, under_its_uri, members_with_documents, defs_of, bundle_of}
use Rattle.lemmas.proofs.Texts.{same_text_itself, same_text_is}
use Rattle.definition_laws.specs.Identities.{IsDefinite}
use Rattle.definition_laws.specs.Bundling.{IsAbsolute}
use Rattle.definition_laws.proofs.Occurrences.{IsIn, in_map, into_map}
use Rattle.definition_laws.proofs.Places.{places, members_once, IsStep}
use Rattle.definition_laws.proofs.Targets.{below_alike}
use Rattle.definition_laws.proofs.Applying.{get_in}
use Rattle.definition_laws.proofs.MembersPut.{put_in, put_beside, put_from, put_entry, put_other_entry, members_with, is_object-with, unbundled-with}
use Rattle.definition_laws.proofs.Unbundled.{members_back}

-- ---- the root of a resource under its URI
abbrev pub root_schema : Text → Value → Schema
root_schema uri v = record { resource = uri; pointer = []; value = v }

-- what a place holds is held by a place of the same member elsewhere
abbrev pub Holds : Value → Text → Pointer → Value → Type 0
Holds v n rest part = (x : Value) × IsIn (n, x) (members v) × IsIn (rest, part) (places x (shape_in keywords n))

pub step_moved : (s t u : Schema) (way : Pointer) → IsAlikeSchema s t → (step : IsStep keywords t u way) → Holds s.value step.name step.rest step.part → IsStep keywords s u way
step_moved s t u way h step held = record {
  name = step.name;
  value = held.0;
  rest = step.rest;
  part = step.part;
  inside = held.1;
  place = held.2;
  way_is = step.way_is;
  is = step.is ∙ below_alike s t way step.part h;
}

pub opened_there : (base uri : Text) (way : Pointer) (v : Value) → IsAbsolute uri → text_at (codes "$id") v ≡ Some uri → schema_at base way v ≡ root_schema uri v
opened_there base uri way v absolute e = ap (opened_schema base way v) e ∙ ap (λ r. root_schema r v) (absolute base)

-- ---- a document under its own URI
pub under_id : (d : Document) → is_object d.value ≡ true → text_at (codes "$id") (under_its_uri d) ≡ Some d.canonical
under_id d h =
    ap (λ ms. option_and_then as_string (entry (codes "$id") ms)) (members_with (codes "$id") (string d.canonical) d.value h)
    ∙ ap (option_and_then as_string) (put_entry (codes "$id") (string d.canonical) (members d.value))

pub unlike : (n m : Text) → same_text n m ≡ false → n ≡ m → ⊥
unlike n m h e = let same : same_text n m ≡ true = subst (λ x. same_text n x ≡ true) e (same_text_itself n) in absurd (let no : true ≡ false = sym same ∙ h in cc)

no_place : (n : Text) (x : Value) (rest : Pointer) (part : Value) → n ≡ codes "$id" → IsIn (rest, part) (places x (shape_in keywords n)) → ⊥
no_place n x rest part e i = subst (λ m. IsIn (rest, part) (places x (shape_in keywords m))) e i

pub under_keeps : (d : Document) → is_object d.value ≡ true → (n : Text) (rest : Pointer) (part : Value) → Holds d.value n rest part → Holds (under_its_uri d) n rest part
under_keeps d h n rest part (x, i, p) = by (same_text n (codes "$id")) refl
  where
    by : (b : Bool) → same_text n (codes "$id") ≡ b → Holds (under_its_uri d) n rest part
    by true e = absurd (no_place n x rest part (same_text_is n (codes "$id") e) p)
    by false e = (
      x,
      subst (IsIn (n, x)) (sym (members_with (codes "$id") (string d.canonical) d.value h))
          (put_beside (codes "$id") (string d.canonical) (members d.value) (n, x) i (unlike n (codes "$id") e)),
      p,
    )

pub under_had : (d : Document) → is_object d.value ≡ true → (n : Text) (rest : Pointer) (part : Value) → Holds (under_its_uri d) n rest part → Holds d.value n rest part
under_had d h n rest part (x, i, p) =
    elim (put_from (codes "$id") (string d.canonical) (members d.value) (n, x) (subst (IsIn (n, x)) (members_with (codes "$id") (string d.canonical) d.value h) i)) [
      | inl e ↦ absurd (no_place n x rest part (sym (ap (λ y. y.0) e)) p)
      | inr j ↦ (x, j, p)
    ]

-- ---- what is embedded
embedded_keeps : (ds : List Document) (ms : List (Text × Value)) (m : Text × Value) → ((d : Document) → IsIn d ds → m.0 ≡ d.canonical → ⊥) → IsIn m ms → IsIn m (members_with_documents ds ms)
embedded_keeps [] ms m other i = i
embedded_keeps (d ∷ ds) ms m other i =
    put_beside d.canonical (under_its_uri d) (members_with_documents ds ms) m (embedded_keeps ds ms m (λ e j. other e (inr j)) i) (other d (inl refl))

embedded_has : (ds : List Document) (ms : List (Text × Value)) (d : Document) → ((e f : Document) → IsIn e ds → IsIn f ds → e.canonical ≡ f.canonical → e ≡ f) → IsIn d ds
    → IsIn (d.canonical, under_its_uri d) (members_with_documents ds ms)
embedded_has [] ms d once i = absurd i
embedded_has (e ∷ ds) ms d once (inl f) =
    subst (λ x. IsIn (x.canonical, under_its_uri x) (members_with_documents (e ∷ ds) ms)) f (put_in e.canonical (under_its_uri e) (members_with_documents ds ms))
embedded_has (e ∷ ds) ms d once (inr i) = by (same_text d.canonical e.canonical) refl (embedded_has ds ms d (λ x y j k. once x y (inr j) (inr k)) i)
  where
    by : (b : Bool) → same_text d.canonical e.canonical ≡ b → IsIn (d.canonical, under_its_uri d) (members_with_documents ds ms) → IsIn (d.canonical, under_its_uri d) (members_with_documents (e ∷ ds) ms)
    by true s later =
        let same : e ≡ d = once e d (inl refl) (inr i) (sym (same_text_is d.canonical e.canonical s)) in
        subst (λ x. IsIn (x.canonical, under_its_uri x) (members_with_documents (e ∷ ds) ms)) same (put_in e.canonical (under_its_uri e) (members_with_documents ds ms))
    by false s later = put_beside e.canonical (under_its_uri e) (members_with_documents ds ms) (d.canonical, under_its_uri d) later (unlike d.canonical e.canonical s)

pub embedded_from : (ds : List Document) (ms : List (Text × Value)) (m : Text × Value) → IsIn m (members_with_documents ds ms) → ((d : Document) × IsIn d ds × ((d.canonical, under_its_uri d) ≡ m)) ⊎ IsIn m ms
embedded_from [] ms m i = inr i
embedded_from (d ∷ ds) ms m i = elim (put_from d.canonical (under_its_uri d) (members_with_documents ds ms) m i) [
  | inl e ↦ inl (d, inl refl, e)
  | inr j ↦ elim (embedded_from ds ms m j) [ inl r ↦ inl (r.0, inr r.1, r.2) | inr k ↦ inr k ]
]

-- ---- an object's member by its name
pub entry_found : (n : Text) (x : Value) (ms : List (Text × Value)) → IsIn (n, x) ms → is_some (entry n ms) ≡ true
entry_found n x [] i = absurd i
entry_found n x (m ∷ ms) (inl e) = let same : same_text n m.0 ≡ true = subst (λ k. same_text n k ≡ true) (sym (ap (λ y. y.0) e)) (same_text_itself n) in rw same refl
entry_found n x (m ∷ ms) (inr i) = by (same_text n m.0) (entry_found n x ms i)
  where
    by : (b : Bool) → is_some (entry n ms) ≡ true → is_some (cond b (Some m.1) (entry n ms)) ≡ true
    by true later = refl
    by false later = later

get_is : (v : Value) (n : Text) (x : Value) → IsDefinite v → IsIn (n, x) (members v) → get n v ≡ Some x
get_is v n x d i = by (get n v) refl (entry_found n x (members v) i)
  where
    by : (o : Option Value) → get n v ≡ o → is_some o ≡ true → o ≡ Some x
    by None e f = absurd (cc)
    by (Some y) e f = ap (λ z. Some z) (members_once v n y x d (get_in n v y e) i)

-- ---- the root among the others
abbrev pub IsApart : Document → List Document → Type 0
IsApart root others = (d : Document) → IsIn d others → (x : Value) → IsIn (d.canonical, x) (defs_of root.value) → ⊥

abbrev pub HaveOwnUris : List Document → Type 0
HaveOwnUris ds = (d e : Document) → IsIn d ds → IsIn e ds → d.canonical ≡ e.canonical → d ≡ e

abbrev pub new_defs : Document → List Document → Value
new_defs root ds = object (to_members (members_with_documents ds (defs_of root.value)))

pub members-new : (root : Document) (ds : List Document) → members (new_defs root ds) ≡ members_with_documents ds (defs_of root.value)
members-new root ds = members_back (members_with_documents ds (defs_of root.value))

pub members-bundle : (root d : Document) (ds : List Document) → is_object root.value ≡ true
    → members (bundle_of root (d ∷ ds)) ≡ put_member (codes "$defs") (new_defs root (d ∷ ds)) (members (under_its_uri root))
members-bundle root d ds h = members_with (codes "$defs") (new_defs root (d ∷ ds)) (under_its_uri root) (is_object-with (codes "$id") (string root.canonical) root.value h)

pub bundle_id : (root : Document) (others : List Document) → is_object root.value ≡ true → text_at (codes "$id") (bundle_of root others) ≡ Some root.canonical
bundle_id root [] h = under_id root h
bundle_id root (d ∷ ds) h =
    ap (λ ms. option_and_then as_string (entry (codes "$id") ms)) (members-bundle root d ds h)
    ∙ ap (option_and_then as_string) (put_other_entry (codes "$id") (codes "$defs") (new_defs root (d ∷ ds)) (members (under_its_uri root)) refl)
    ∙ under_id root h

pub under_unbundled : (d : Document) → is_object d.value ≡ true → unbundled_value (under_its_uri d) ≡ unbundled_value d.value
under_unbundled d h = unbundled-with (codes "$id") (string d.canonical) d.value h refl

pub bundle_unbundled : (root : Document) (others : List Document) → is_object root.value ≡ true → unbundled_value (bundle_of root others) ≡ unbundled_value root.value
bundle_unbundled root [] h = under_unbundled root h
bundle_unbundled root (d ∷ ds) h =
    unbundled-with (codes "$defs") (new_defs root (d ∷ ds)) (under_its_uri root) (is_object-with (codes "$id") (string root.canonical) root.value h) refl
    ∙ under_unbundled root h

abbrev named_place : Text × Value → Pointer × Value
named_place m = (m.0 ∷ [], m.1)

pub bundle_keeps : (root : Document) (others : List Document) → is_object root.value ≡ true → IsDefinite root.value → IsApart root others
    → (n : Text) (rest : Pointer) (part : Value) → Holds root.value n rest part → Holds (bundle_of root others) n rest part
bundle_keeps root [] h definite apart n rest part held = under_keeps root h n rest part held
bundle_keeps root (d ∷ ds) h definite apart n rest part (x, i, p) = by (same_text n (codes "$defs")) refl
  where
    new_place : IsIn (codes "$defs", x) (members root.value) → IsIn (rest, part) (map named_place (members x)) → IsIn (rest, part) (map named_place (members (new_defs root (d ∷ ds))))
    new_place j q =
        let m = in_map named_place (members x) (rest, part) q in
        let old : defs_of root.value ≡ members x = ap (λ o. members (unwrap_or o (object no_members))) (get_is root.value (codes "$defs") x definite j) in
        let had : IsIn m.0 (defs_of root.value) = subst (IsIn m.0) (sym old) m.1 in
        let has : IsIn m.0 (members_with_documents (d ∷ ds) (defs_of root.value)) =
        embedded_keeps (d ∷ ds) (defs_of root.value) m.0 (λ e k same. apart e k (m.0).1 (subst (λ name. IsIn (name, (m.0).1) (defs_of root.value)) same had)) had in
        subst (λ y. IsIn y (map named_place (members (new_defs root (d ∷ ds))))) m.2
        (into_map named_place (members (new_defs root (d ∷ ds))) m.0 (subst (IsIn m.0) (sym (members-new root (d ∷ ds))) has))

    by : (b : Bool) → same_text n (codes "$defs") ≡ b → Holds (bundle_of root (d ∷ ds)) n rest part
    by false e =
        let y = under_keeps root h n rest part (x, i, p) in (
          y.0,
          subst (IsIn (n, y.0)) (sym (members-bundle root d ds h))
              (put_beside (codes "$defs") (new_defs root (d ∷ ds)) (members (under_its_uri root)) (n, y.0) y.1 (unlike n (codes "$defs") e)),
          y.2,
        )
    by true e =
        let name : n ≡ codes "$defs" = same_text_is n (codes "$defs") e in
        subst (λ m. Holds (bundle_of root (d ∷ ds)) m rest part) (sym name) (
          new_defs root (d ∷ ds),
          subst (IsIn (codes "$defs", new_defs root (d ∷ ds))) (sym (members-bundle root d ds h)) (put_in (codes "$defs") (new_defs root (d ∷ ds)) (members (under_its_uri root))),
          new_place (subst (λ m. IsIn (m, x) (members root.value)) name i) (subst (λ m. IsIn (rest, part) (places x (shape_in keywords m))) name p),
        )

-- what the bundle has that its root hasn't
abbrev IsEmbedded : List Document → Text → Pointer → Value → Type 0
IsEmbedded others n rest part = (d : Document) × IsIn d others × (rest ≡ d.canonical ∷ []) × (part ≡ under_its_uri d)

pub bundle_had : (root : Document) (others : List Document) → is_object root.value ≡ true → (n : Text) (rest : Pointer) (part : Value) → Holds (bundle_of root others) n rest part
    → Holds root.value n rest part ⊎ IsEmbedded others n rest part
bundle_had root [] h n rest part held = inl (under_had root h n rest part held)
bundle_had root (d ∷ ds) h n rest part (y, i, p) =
    elim (put_from (codes "$defs") (new_defs root (d ∷ ds)) (members (under_its_uri root)) (n, y) (subst (IsIn (n, y)) (members-bundle root d ds h) i)) [
      | inl e ↦ of_defs (sym (ap (λ z. z.0) e)) (subst (λ v. IsIn (rest, part) (places v (shape_in keywords (codes "$defs")))) (sym (ap (λ z. z.1) e))
          (subst (λ m. IsIn (rest, part) (places y (shape_in keywords m))) (sym (ap (λ z. z.0) e)) p))
      | inr j ↦ inl (under_had root h n rest part (y, j, p))
    ]
  where
    old_place : (o : Option Value) → get (codes "$defs") root.value ≡ o → (m : Text × Value) → IsIn m (members (unwrap_or o (object no_members))) → named_place m ≡ (rest, part)
        → Holds root.value (codes "$defs") rest part
    old_place None f m k e = absurd k
    old_place (Some x) f m k e = (x, get_in (codes "$defs") root.value x f, subst (λ z. IsIn z (map named_place (members x))) e (into_map named_place (members x) m k))

    of_defs : n ≡ codes "$defs" → IsIn (rest, part) (map named_place (members (new_defs root (d ∷ ds)))) → Holds root.value n rest part ⊎ IsEmbedded (d ∷ ds) n rest part
    of_defs name q =
        let m = in_map named_place (members (new_defs root (d ∷ ds))) (rest, part) q in
        elim (embedded_from (d ∷ ds) (defs_of root.value) m.0 (subst (IsIn m.0) (members-new root (d ∷ ds)) m.1)) [
          | inl r ↦ inr (r.0, r.1, sym (ap (λ z. z.0) m.2) ∙ ap (λ z. z.0 ∷ []) (sym r.2), sym (ap (λ z. z.1) m.2) ∙ ap (λ z. z.1) (sym r.2))
          | inr k ↦ inl (subst (λ t. Holds root.value t rest part) (sym name) (old_place (get (codes "$defs") root.value) refl m.0 k m.2))
        ]

pub bundle_embeds : (root : Document) (others : List Document) → is_object root.value ≡ true → HaveOwnUris others → (d : Document) → IsIn d others
    → Holds (bundle_of root others) (codes "$defs") (d.canonical ∷ []) (under_its_uri d)
bundle_embeds root [] h own d i = absurd i
bundle_embeds root (e ∷ ds) h own d i = (
  new_defs root (e ∷ ds),
  subst (IsIn (codes "$defs", new_defs root (e ∷ ds))) (sym (members-bundle root e ds h)) (put_in (codes "$defs") (new_defs root (e ∷ ds)) (members (under_its_uri root))),
  into_map named_place (members (new_defs root (e ∷ ds))) (d.canonical, under_its_uri d)
      (subst (IsIn (d.canonical, under_its_uri d)) (sym (members-new root (e ∷ ds))) (embedded_has (e ∷ ds) (defs_of root.value) d own i)),
)
