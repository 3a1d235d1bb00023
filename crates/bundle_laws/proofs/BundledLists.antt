-- What is collected of a bundle's schemas is what is collected of its documents', in another order.
use Rattle.std.proofs.Common.{◌≡◌, ◌++◌, ℕ, zero, suc, List, [], ◌∷◌, Bool, true, false, cond, Option, Some, None, option_map, option_and_then, unwrap_or, map, codes, refl, sym, ap, ap₂, subst, ◌∙◌, inl, inr, append_assoc, append-nil}
use Rattle.std.proofs.lemmas.List.Sorted.{IsPermutation-refl, IsPermutation-trans, IsPermutation-append_right}
use Rattle.std.specs.List.{flat_map, filter}
use Rattle.std.specs.List.Sorted.{IsPermutation}
use Rattle.definitions.specs.Values.{Text, Value, string, object, no_members, members, entry, get, as_string, is_object}
use Rattle.definitions.specs.Alike.{IsAlikeSchema}
use Rattle.definitions.specs.Schemas.{Schema, Document, schema_at, is_root}
use Rattle.definitions.specs.Lists.{option_list}
use Rattle.definitions.specs.Scanning.{resource_uris, anchor_names, anchors_of}
use Rattle.definitions.specs.Searches.{patterns_of}
use Rattle.definitions.specs.Bundles.{under_its_uri, members_with_documents, defs_of, bundle_of}
use Rattle.definition_laws.specs.Identities.{IsDefinite}
use Rattle.definition_laws.specs.Bundling.{IsAbsolute}
use Rattle.definition_laws.proofs.Occurrences.{IsIn}
use Rattle.definition_laws.proofs.Targets.{alike_resource, alike_pointer, alike_get}
use Rattle.definition_laws.proofs.MembersPut.{put_other_entry, members_with}
use Rattle.definition_laws.proofs.BundledDocuments.{root_schema, opened_there, under_id, under_unbundled, new_defs, members-new, members-bundle, embedded_from, IsApart}
use Rattle.definition_laws.proofs.FlatMaps.{same_flat_map}
use Rattle.bundle_laws.proofs.Collected.{flat_mapped, collected, held, by_members, put_nothing, put_new, put_more, moved_front, ascending_members}

-- ---- lists of a schema that alike schemas have in common
abbrev pub IsCommon : {B : Type 0} → (Schema → List B) → Type 0
IsCommon f = (s t : Schema) → IsAlikeSchema s t → f t ≡ f s

abbrev pub root_uri : Schema → List Text
root_uri s = cond (is_root s) (s.resource ∷ []) []

pub root_uri_common : IsCommon root_uri
root_uri_common s t h = ap₂ (λ b u. cond b (u ∷ []) []) (ap (λ p. is_root (record s { pointer = p })) (alike_pointer s t h)) (alike_resource s t h)

pub anchors_common : IsCommon anchors_of
anchors_common s t h =
    ap₂ (λ u ns. map (λ n. (u, n)) ns) (alike_resource s t h)
    (ap₂ (λ a b. anchor_names (option_and_then as_string a) (option_and_then as_string b)) (alike_get (codes "$anchor") s t refl h) (alike_get (codes "$dynamicAnchor") s t refl h))

pub patterns_common : IsCommon patterns_of
patterns_common s t h =
    ap₂ (λ a b. option_list (option_and_then as_string a) ++ unwrap_or (option_map (λ v. map (λ m. m.0) (members v)) b) [])
    (alike_get (codes "pattern") s t refl h) (alike_get (codes "patternProperties") s t refl h)

pub uris_listed : (table : List Schema) → resource_uris table ≡ flat_map root_uri table
uris_listed [] = refl
uris_listed (s ∷ table) = by (is_root s) (uris_listed table)
  where
    by : (b : Bool) → resource_uris table ≡ flat_map root_uri table → map (λ t. t.resource) (cond b (s ∷ filter is_root table) (filter is_root table)) ≡ cond b (s.resource ∷ []) [] ++ flat_map root_uri table
    by true e = ap (λ rest. s.resource ∷ rest) e
    by false e = e

-- ---- documents with names of their own
abbrev pub AreUnlike : List Document → Type 0
AreUnlike [] = Unit {0}
AreUnlike (d ∷ ds) = ((e : Document) → IsIn e ds → d.canonical ≡ e.canonical → ⊥) × AreUnlike ds

-- what makes a document fit to be embedded
pub record IsFit (d : Document) : Type 0 where
  pub shaped : is_object d.value ≡ true
  pub absolute : IsAbsolute d.canonical

module _ {B : Type 0} (f : Schema → List B) (common : IsCommon f) where
  pub under_collected : (n : ℕ) (d : Document) → is_object d.value ≡ true → collected f n (root_schema d.canonical (under_its_uri d)) ≡ collected f n (root_schema d.canonical d.value)
  under_collected zero d h = refl
  under_collected (suc n) d h =
      by_members f n d.canonical (under_its_uri d)
      ∙ ap₂ (λ a b. a ++ b) (common (root_schema d.canonical d.value) (root_schema d.canonical (under_its_uri d)) (refl, under_unbundled d h))
      (ap (flat_map (held f n d.canonical)) (members_with (codes "$id") (string d.canonical) d.value h)
      ∙ put_nothing (held f n d.canonical) (codes "$id") (string d.canonical) (members d.value) (λ w. refl))
      ∙ sym (by_members f n d.canonical d.value)

  -- what is collected of a value under `$defs`
  abbrev of_def : ℕ → Text → Text × Value → List B
  of_def n uri m = collected f n (schema_at uri (codes "$defs" ∷ m.0 ∷ []) m.1)

  of_defs : (n : ℕ) (uri : Text) (v : Value) → held f n uri (codes "$defs", v) ≡ flat_map (of_def n uri) (members v)
  of_defs n uri v = flat_mapped (λ e. collected f n (schema_at uri (codes "$defs" ∷ e.0) e.1)) (λ m. (m.0 ∷ [], m.1)) (members v)

  of_embedded : (n : ℕ) (uri : Text) (d : Document) → IsFit d → of_def n uri (d.canonical, under_its_uri d) ≡ collected f n (root_schema d.canonical d.value)
  of_embedded n uri d fit =
      ap (collected f n) (opened_there uri d.canonical (codes "$defs" ∷ d.canonical ∷ []) (under_its_uri d) fit.absolute (under_id d fit.shaped))
      ∙ under_collected n d fit.shaped

  embedded_moved : (h : Text × Value → List B) (es : List Document) (ms : List (Text × Value)) → AreUnlike es → ((d : Document) → IsIn d es → (x : Value) → IsIn (d.canonical, x) ms → ⊥)
      → IsPermutation (flat_map h (members_with_documents es ms)) (flat_map (λ d. h (d.canonical, under_its_uri d)) es ++ flat_map h ms)
  embedded_moved h [] ms unlike apart = IsPermutation-refl (flat_map h ms)
  embedded_moved h (d ∷ es) ms unlike apart =
      let own : List B = h (d.canonical, under_its_uri d) in
      let others : List B = flat_map (λ e. h (e.canonical, under_its_uri e)) es in
      IsPermutation-trans (flat_map h (members_with_documents (d ∷ es) ms)) (own ++ flat_map h (members_with_documents es ms)) ((own ++ others) ++ flat_map h ms)
      (put_new h d.canonical (under_its_uri d) (members_with_documents es ms) (λ m i e. elim (embedded_from es ms m i) [
        | inl r ↦ unlike.0 r.0 r.1 (e ∙ sym (ap (λ y. y.0) r.2))
        | inr j ↦ apart d (inl refl) m.1 (subst (λ n. IsIn (n, m.1) ms) (sym e) j)
      ]))
      (subst (IsPermutation (own ++ flat_map h (members_with_documents es ms))) (sym (append_assoc own others (flat_map h ms)))
      (IsPermutation-append_right own (flat_map h (members_with_documents es ms)) (others ++ flat_map h ms) (embedded_moved h es ms unlike.1 (λ e i. apart e (inr i)))))

  -- ---- the root and the others
  new_moved : (n : ℕ) (root : Document) (es : List Document) → AreUnlike es → IsApart root es → ((d : Document) → IsIn d es → IsFit d)
      → IsPermutation (held f n root.canonical (codes "$defs", new_defs root es)) (flat_map (λ d. collected f n (root_schema d.canonical d.value)) es ++ flat_map (of_def n root.canonical) (defs_of root.value))
  new_moved n root es unlike apart fit =
      let h : Text × Value → List B = of_def n root.canonical in
      let is : held f n root.canonical (codes "$defs", new_defs root es) ≡ flat_map h (members_with_documents es (defs_of root.value)) =
      of_defs n root.canonical (new_defs root es) ∙ ap (flat_map h) (members-new root es) in
      let own : flat_map (λ d. h (d.canonical, under_its_uri d)) es ≡ flat_map (λ d. collected f n (root_schema d.canonical d.value)) es =
      same_flat_map (λ d. h (d.canonical, under_its_uri d)) (λ d. collected f n (root_schema d.canonical d.value)) es (λ d i. of_embedded n root.canonical d (fit d i)) in
      subst (λ l. IsPermutation l (flat_map (λ d. collected f n (root_schema d.canonical d.value)) es ++ flat_map h (defs_of root.value))) (sym is)
      (subst (λ l. IsPermutation (flat_map h (members_with_documents es (defs_of root.value))) (l ++ flat_map h (defs_of root.value))) own (embedded_moved h es (defs_of root.value) unlike apart))

  defs_by : (n : ℕ) (root : Document) (es : List Document) → AreUnlike es → IsApart root es → ((d : Document) → IsIn d es → IsFit d) → (o : Option Value) → get (codes "$defs") root.value ≡ o
      → IsPermutation (held f n root.canonical (codes "$defs", new_defs root es))
      (flat_map (λ d. collected f n (root_schema d.canonical d.value)) es ++ flat_map (of_def n root.canonical) (members (unwrap_or o (object no_members))))
  defs_by n root es unlike apart fit o e =
      subst (λ p. IsPermutation (held f n root.canonical (codes "$defs", new_defs root es))
      (flat_map (λ d. collected f n (root_schema d.canonical d.value)) es ++ flat_map (of_def n root.canonical) (members (unwrap_or p (object no_members))))) e
      (new_moved n root es unlike apart fit)

  members_moved : (n : ℕ) (root d : Document) (es : List Document) → AreUnlike (d ∷ es) → IsApart root (d ∷ es) → is_object root.value ≡ true → IsDefinite (under_its_uri root)
      → ((e : Document) → IsIn e (d ∷ es) → IsFit e)
      → IsPermutation (flat_map (held f n root.canonical) (members (bundle_of root (d ∷ es))))
      (flat_map (λ e. collected f n (root_schema e.canonical e.value)) (d ∷ es) ++ flat_map (held f n root.canonical) (members (under_its_uri root)))
  members_moved n root d es unlike apart shaped definite fit =
      let g : Text × Value → List B = held f n root.canonical in
      let news : Value = new_defs root (d ∷ es) in
      let added : List B = flat_map (λ e. collected f n (root_schema e.canonical e.value)) (d ∷ es) in
      let kept : entry (codes "$defs") (members (under_its_uri root)) ≡ get (codes "$defs") root.value =
      ap (entry (codes "$defs")) (members_with (codes "$id") (string root.canonical) root.value shaped) ∙ put_other_entry (codes "$defs") (codes "$id") (string root.canonical) (members root.value) refl in
      subst (λ ms. IsPermutation (flat_map g ms) (added ++ flat_map g (members (under_its_uri root)))) (sym (members-bundle root d es shaped))
      (put_more g (codes "$defs") news added (members (under_its_uri root)) (ascending_members (under_its_uri root) definite)
      (λ e. subst (IsPermutation (g (codes "$defs", news))) (append-nil added) (defs_by n root (d ∷ es) unlike apart fit None (sym kept ∙ e)))
      (λ y e. subst (λ l. IsPermutation (g (codes "$defs", news)) (added ++ l)) (sym (of_defs n root.canonical y)) (defs_by n root (d ∷ es) unlike apart fit (Some y) (sym kept ∙ e))))

  pub bundle_moved : (n : ℕ) (root : Document) (es : List Document) → AreUnlike es → IsApart root es → is_object root.value ≡ true → IsDefinite (under_its_uri root) → ((e : Document) → IsIn e es → IsFit e)
      → IsAlikeSchema (root_schema root.canonical root.value) (root_schema root.canonical (bundle_of root es))
      → IsPermutation (collected f (suc n) (root_schema root.canonical (bundle_of root es)))
      (flat_map (λ e. collected f n (root_schema e.canonical e.value)) es ++ collected f (suc n) (root_schema root.canonical root.value))
  bundle_moved n root [] unlike apart shaped definite fit alike =
      subst (IsPermutation (collected f (suc n) (root_schema root.canonical (under_its_uri root)))) (under_collected (suc n) root shaped)
      (IsPermutation-refl (collected f (suc n) (root_schema root.canonical (under_its_uri root))))
  bundle_moved n root (d ∷ es) unlike apart shaped definite fit alike =
      let g : Text × Value → List B = held f n root.canonical in
      let v : Value = bundle_of root (d ∷ es) in
      let top : List B = f (root_schema root.canonical v) in
      let added : List B = flat_map (λ e. collected f n (root_schema e.canonical e.value)) (d ∷ es) in
      let old : List B = flat_map g (members (under_its_uri root)) in
      let tops : top ≡ f (root_schema root.canonical (under_its_uri root)) =
      common (root_schema root.canonical root.value) (root_schema root.canonical v) alike
      ∙ sym (common (root_schema root.canonical root.value) (root_schema root.canonical (under_its_uri root)) (refl, under_unbundled root shaped)) in
      let whole : top ++ old ≡ collected f (suc n) (root_schema root.canonical root.value) =
      ap (λ l. l ++ old) tops ∙ sym (by_members f n root.canonical (under_its_uri root)) ∙ under_collected (suc n) root shaped in
      subst (λ l. IsPermutation l (added ++ collected f (suc n) (root_schema root.canonical root.value))) (sym (by_members f n root.canonical v))
      (IsPermutation-trans (top ++ flat_map g (members v)) (top ++ (added ++ old)) (added ++ collected f (suc n) (root_schema root.canonical root.value))
      (IsPermutation-append_right top (flat_map g (members v)) (added ++ old) (members_moved n root d es unlike apart shaped definite fit))
      (subst (λ l. IsPermutation (top ++ (added ++ old)) (added ++ l)) whole (moved_front top added old)))
