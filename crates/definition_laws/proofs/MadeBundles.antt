-- A root among the others that are bundled with it.
use Rattle.std.proofs.Common.{◌≡◌, ◌⊎◌, ◌++◌, suc, List, [], ◌∷◌, true, codes, refl, sym, ap, subst, ◌∙◌, inl, inr}
use Rattle.definitions.specs.Values.{Text, Value, is_object, nesting}
use Rattle.definitions.specs.Pointers.{Pointer}
use Rattle.definitions.specs.Keywords.{keywords}
use Rattle.definitions.specs.Schemas.{Schema, Document, schema_at, below, document_from, schemas_from, schemas_of, table_of}
use Rattle.definitions.specs.Bundles.{under_its_uri, bundle_of}
use Rattle.definition_laws.specs.Identities.{IsDefinite}
use Rattle.definition_laws.specs.Bundling.{IsAbsolute, AreWhole}
use Rattle.definition_laws.proofs.Occurrences.{IsIn, contains_from_in, in_flat_map, into_flat_map, in_map, into_map}
use Rattle.definition_laws.proofs.Places.{value-opened, IsStep, IsBelow, here, further}
use Rattle.definition_laws.proofs.Roots.{within_from, root_opened, table_definite}
use Rattle.definition_laws.proofs.Tables.{table_closed, step_closed}
use Rattle.definition_laws.proofs.Extending.{Extends, extends_itself, extends_by, extends_below, IsPrepared}
use Rattle.definition_laws.proofs.BundledDocuments.{root_schema, step_moved, opened_there, under_id, under_keeps, under_had, under_unbundled, bundle_id, bundle_keeps, bundle_had, bundle_embeds, bundle_unbundled, IsApart, HaveOwnUris}

-- ---- a document's own root
schema_equal : (s t : Schema) → s.resource ≡ t.resource → s.pointer ≡ t.pointer → s.value ≡ t.value → s ≡ t
schema_equal s t e f g = λ i. record { resource = e i; pointer = f i; value = g i }

pub own_root_is : (d : Document) → d ≡ document_from d.base d.value → schema_at d.base [] d.value ≡ root_schema d.canonical d.value
own_root_is d named =
    schema_equal (schema_at d.base [] d.value) (root_schema d.canonical d.value) (sym (ap (λ x. x.canonical) named)) (root_opened d.base d.value) (value-opened d.base [] d.value _)

start_in : (base : Text) (v : Value) → IsIn (schema_at base [] v) (schemas_of base v)
start_in base v = into_map (λ t. t.1) (schemas_from (schema_at base [] v)) ([], schema_at base [] v) (inl refl)

all_below : (base : Text) (v : Value) (s : Schema) → IsIn s (schemas_of base v) → (p : Pointer) × IsBelow keywords (schema_at base [] v) s p
all_below base v s i =
    let top : Schema = schema_at base [] v in
    let q = in_map (λ t. t.1) (schemas_from top) s i in
    let o = within_from keywords (suc (nesting top.value)) [] top q.0 q.1 in
    (o.0, subst (λ x. IsBelow keywords top x o.0) q.2 o.2)

pub own_root_in : (d : Document) → d ≡ document_from d.base d.value → IsIn (root_schema d.canonical d.value) (schemas_of d.base d.value)
own_root_in d named = subst (λ s. IsIn s (schemas_of d.base d.value)) (own_root_is d named) (start_in d.base d.value)

-- ---- a root among the others that are bundled with it
pub record IsMade (ds : List Document) (root : Document) (others : List Document) : Type 0 where
  pub whole : AreWhole ds
  pub root_in : IsIn root ds
  pub others_in : (d : Document) → IsIn d others → IsIn d ds
  pub each : (d : Document) → IsIn d ds → (d ≡ root) ⊎ IsIn d others
  pub apart : IsApart root others
  pub own : HaveOwnUris ds

module _ (ds : List Document) (root : Document) (others : List Document) (made : IsMade ds root others) (base : Text) where
  object_in : (d : Document) → IsIn d ds → is_object d.value ≡ true
  object_in d i = made.whole.objects d (contains_from_in ds d i)

  named_in : (d : Document) → IsIn d ds → d ≡ document_from d.base d.value
  named_in d i = made.whole.named d (contains_from_in ds d i)

  absolute_in : (d : Document) → IsIn d ds → IsAbsolute d.canonical
  absolute_in d i = made.whole.absolute d (contains_from_in ds d i)

  -- the table of the documents
  abbrev T : List Schema
  T = table_of ds

  root_in_table : (d : Document) → IsIn d ds → IsIn (root_schema d.canonical d.value) T
  root_in_table d i = into_flat_map (λ e. schemas_of e.base e.value) ds d (root_schema d.canonical d.value) i (own_root_in d (named_in d i))

  table_below : (s : Schema) → IsIn s T → (d : Document) × IsIn d ds × ((p : Pointer) × IsBelow keywords (root_schema d.canonical d.value) s p)
  table_below s i =
      let r = in_flat_map (λ e. schemas_of e.base e.value) ds s i in
      let b = all_below (r.0).base (r.0).value s r.2 in
      (r.0, r.1, (b.0, subst (λ x. IsBelow keywords x s b.0) (own_root_is r.0 (named_in r.0 r.1)) b.1))

  -- and that of the bundle
  abbrev pub v : Value
  v = bundle_of root others

  abbrev O : List Schema
  O = table_of (document_from base v ∷ [])

  pub top_is : schema_at base [] v ≡ root_schema root.canonical v
  top_is = opened_there base root.canonical [] v (absolute_in root made.root_in) (bundle_id root others (object_in root made.root_in))

  top_in : IsIn (root_schema root.canonical v) O
  top_in = into_flat_map (λ e. schemas_of e.base e.value) (document_from base v ∷ []) (document_from base v) (root_schema root.canonical v) (inl refl)
      (subst (λ s. IsIn s (schemas_of base v)) top_is (start_in base v))

  bundle_below : (t : Schema) → IsIn t O → (p : Pointer) × IsBelow keywords (root_schema root.canonical v) t p
  bundle_below t i = of_document (in_flat_map (λ e. schemas_of e.base e.value) (document_from base v ∷ []) t i)
    where
      of_document : (d : Document) × IsIn d (document_from base v ∷ []) × IsIn t (schemas_of d.base d.value) → (p : Pointer) × IsBelow keywords (root_schema root.canonical v) t p
      of_document (d, inr j, k) = absurd j
      of_document (d, inl e, k) =
          let b = all_below base v t (subst (λ x. IsIn t (schemas_of x.base x.value)) (sym e) k) in
          (b.0, subst (λ x. IsBelow keywords x t b.0) top_is b.1)

  -- each document's root, as it stands in the bundle
  document_extends : (d : Document) → IsIn d ds → Extends (root_schema d.canonical d.value) (root_schema d.canonical (under_its_uri d))
  document_extends d i =
      extends_by (root_schema d.canonical d.value) (root_schema d.canonical (under_its_uri d)) (refl, under_unbundled d (object_in d i))
      (λ n x rest part j p. under_keeps d (object_in d i) n rest part (x, j, p))

  top_extends : Extends (root_schema root.canonical root.value) (root_schema root.canonical v)
  top_extends =
      extends_by (root_schema root.canonical root.value) (root_schema root.canonical v) (refl, bundle_unbundled root others (object_in root made.root_in))
      (λ n x rest part j p. bundle_keeps root others (object_in root made.root_in) (made.whole.values root (contains_from_in ds root made.root_in)) made.apart n rest part (x, j, p))

  pub embedded_is : (d : Document) → IsIn d ds → (way : Pointer) → below (root_schema root.canonical v) way (under_its_uri d) ≡ root_schema d.canonical (under_its_uri d)
  embedded_is d i way = opened_there root.canonical d.canonical way (under_its_uri d) (absolute_in d i) (under_id d (object_in d i))

  embedded_in : (d : Document) → IsIn d others → IsIn (root_schema d.canonical (under_its_uri d)) O
  embedded_in d i =
      let inside = made.others_in d i in
      let held = bundle_embeds root others (object_in root made.root_in) (λ e f j k. made.own e f (made.others_in e j) (made.others_in f k)) d i in
      let way : Pointer = codes "$defs" ∷ d.canonical ∷ [] in
      let step : IsStep keywords (root_schema root.canonical v) (below (root_schema root.canonical v) way (under_its_uri d)) way =
      record { name = codes "$defs"; value = held.0; rest = d.canonical ∷ []; part = under_its_uri d; inside = held.1; place = held.2; way_is = refl; is = refl } in
      subst (λ s. IsIn s O) (embedded_is d inside way)
      (step_closed O (table_closed (document_from base v ∷ [])) (root_schema root.canonical v) (below (root_schema root.canonical v) way (under_its_uri d)) way top_in step)

  stands : (d : Document) → IsIn d ds → (t : Schema) × IsIn t O × Extends (root_schema d.canonical d.value) t
  stands d i = elim (made.each d i) [
    | inl e ↦ subst (λ x. (t : Schema) × IsIn t O × Extends (root_schema x.canonical x.value) t) (sym e) (root_schema root.canonical v, top_in, top_extends)
    | inr j ↦ (root_schema d.canonical (under_its_uri d), embedded_in d j, document_extends d i)
  ]

  pub forth : (s : Schema) → IsIn s T → (t : Schema) × IsIn t O × Extends s t
  forth s i =
      let r = table_below s i in
      let t = stands r.0 r.1 in
      let u = extends_below (root_schema (r.0).canonical (r.0).value) t.0 s (r.2).0 t.2 (r.2).1 in
      (u.0, table_closed (document_from base v ∷ []) t.0 u.0 (r.2).0 t.1 u.1, u.2)

  back_document : (d : Document) → IsIn d ds → (r t : Schema) (p : Pointer) → IsBelow keywords r t p → r ≡ root_schema d.canonical (under_its_uri d) → (s : Schema) × IsIn s T × Extends s t
  back_document d i r t p (here e f) is =
      (root_schema d.canonical d.value, root_in_table d i, subst (Extends (root_schema d.canonical d.value)) (sym is ∙ e) (document_extends d i))
  back_document d i r t p (further {t = a} {way = first} {rest = rest} step more w) is =
      let there : IsStep keywords (root_schema d.canonical (under_its_uri d)) a first = subst (λ x. IsStep keywords x a first) is step in
      let held = under_had d (object_in d i) there.name there.rest there.part (there.value, there.inside, there.place) in
      let moved = step_moved (root_schema d.canonical d.value) (root_schema d.canonical (under_its_uri d)) a first (document_extends d i).alike there held in
      (t, table_closed ds (root_schema d.canonical d.value) t (first ++ rest) (root_in_table d i) (further moved more refl), extends_itself t)

  back_top : (r t : Schema) (p : Pointer) → IsBelow keywords r t p → r ≡ root_schema root.canonical v → (s : Schema) × IsIn s T × Extends s t
  back_top r t p (here e f) is =
      (root_schema root.canonical root.value, root_in_table root made.root_in, subst (Extends (root_schema root.canonical root.value)) (sym is ∙ e) top_extends)
  back_top r t p (further {t = a} {way = first} {rest = rest} step more w) is =
      let there : IsStep keywords (root_schema root.canonical v) a first = subst (λ x. IsStep keywords x a first) is step in
      elim (bundle_had root others (object_in root made.root_in) there.name there.rest there.part (there.value, there.inside, there.place)) [
        | inl held ↦
            let moved = step_moved (root_schema root.canonical root.value) (root_schema root.canonical v) a first top_extends.alike there held in
            (t, table_closed ds (root_schema root.canonical root.value) t (first ++ rest) (root_in_table root made.root_in) (further moved more refl), extends_itself t)
        | inr d ↦
            let inside = made.others_in d.0 d.1 in
            let it : a ≡ root_schema (d.0).canonical (under_its_uri d.0) =
            there.is ∙ ap (below (root_schema root.canonical v) first) d.3 ∙ embedded_is d.0 inside first in
            back_document d.0 inside a t rest more it
      ]

  pub back : (t : Schema) → IsIn t O → (s : Schema) × IsIn s T × Extends s t
  back t i = let b = bundle_below t i in back_top (root_schema root.canonical v) t b.0 b.1 refl

  definite_in : IsDefinite v → (t : Schema) → IsIn t O → IsDefinite t.value
  definite_in d t i = table_definite (document_from base v ∷ []) own t i
    where
      own : (e : Document) → IsIn e (document_from base v ∷ []) → IsDefinite e.value
      own e (inl f) = subst (λ x. IsDefinite x.value) f d
      own e (inr j) = absurd j

  pub prepared : IsDefinite v → IsPrepared ds O
  prepared d = record {
    distinct = made.whole.distinct;
    anchors = λ e i. made.whole.anchors e (contains_from_in ds e i);
    linked = made.whole.linked;
    correspond = record { forth = forth; back = back };
    definite = definite_in d;
  }
