-- Alike schemas, applied in the same way, use their keywords with the same outcomes, and so does a whole object.
use Rattle.std.proofs.Common.{◌≡◌, ◌&&◌, ◌||◌, ◌++◌, ℕ, List, [], ◌∷◌, Bool, true, false, not, cond, Option, Some, None, map, nat_lt, is_some, codes, refl, sym, ap, ap₂, subst, ◌∙◌, inl, inr}
use Rattle.std.proofs.lemmas.Bool.{and_parts}
use Rattle.std.proofs.lemmas.List.Elements.{filter_agree}
use Rattle.std.specs.List.{flat_map, filter, list_all}
use Rattle.definitions.specs.Values.{Text, Value, same_text, get, members, is_array, is_string}
use Rattle.definitions.specs.Uris.{begins}
use Rattle.definitions.specs.Alike.{IsAlikeSchema}
use Rattle.definitions.specs.Keywords.{Keyword, keywords, shape_in, Meaning, looks_at_evaluated, is_keyword_of, contains, min_contains, max_contains, declares}
use Rattle.definitions.specs.Schemas.{Schema}
use Rattle.definitions.specs.Applied.{Application, Outcome, Part, Rules, application_within, has, keyword_applications}
use Rattle.definitions.specs.Evaluated.{pass_count, needs_none, contains_holds, keyword_passes, evaluated_names, evaluated_indexes, annotation_of, may_annotate, is_annotation}
use Rattle.definitions.specs.Assertions.{is_at_least, is_at_most}
use Rattle.definitions.specs.Outcomes.{Use, unit, other_annotations, outcome_of_uses, use_of, uses_by_keyword, uses_of, object_outcome}
use Rattle.lemmas.proofs.Texts.{same_text_is}
use Rattle.definition_laws.proofs.Occurrences.{IsIn, all_pass_in, from_filter}
use Rattle.definition_laws.proofs.Unbundled.{is_changed, kept_alike, filter_kept}
use Rattle.definition_laws.proofs.Targets.{alike_resource, alike_get}
use Rattle.definition_laws.proofs.Applying.{outcomes, of_schema, IsSetting, beside_same, contains_same, get_in, applied_same}
use Rattle.definition_laws.proofs.KeywordShapes.{fits}
use Rattle.definition_laws.proofs.SameUses.{AreSameUses, same_append, unit_same, equal_same, declared_nothing, nothing_same}

-- ---- each row applies by its shape, and those of members that a bundle may change apply nothing
abbrev declares_only : Meaning → Bool
declares_only declares = true
declares_only _ = false

declares_is : (m : Meaning) → declares_only m ≡ true → m ≡ declares
declares_is declares h = refl
declares_is _ h = absurd (cc)

abbrev row_fits : Keyword → Bool
row_fits k = fits k.meaning k.name (shape_in keywords k.name) && (not (is_changed k.name) || declares_only k.meaning)

rows_fit : list_all row_fits keywords ≡ true
rows_fit = refl

-- ---- one keyword
annotation_same : (a : Application) (t : Schema) (m : Meaning) (os : List (Part × Outcome)) → annotation_of (of_schema a t) m os ≡ annotation_of a m os
annotation_same a t declares os = refl
annotation_same a t _ os = refl

module _ (table other : List Schema) (run again : Application → Outcome) (a : Application) (t : Schema) (c : IsSetting table other run again a t) (rules : Rules) where
  passes_same : (k : Text) (m : Meaning) (v : Value) (os : List (Part × Outcome))
      → keyword_passes (record rules { schemas = other }) again (of_schema a t) k m v os ≡ keyword_passes (record rules { schemas = table }) run a k m v os
  passes_same k contains v os = ap (λ b. not (is_array a.instance) || (nat_lt 0 (pass_count os) || needs_none b)) (beside_same (codes "minContains") a t refl c.alike)
  passes_same k min_contains v os = ap (contains_holds (is_at_least v) (is_array a.instance)) (contains_same table other run again a t c)
  passes_same k max_contains v os = ap (contains_holds (is_at_most v) (is_array a.instance)) (contains_same table other run again a t c)
  passes_same k _ v os = refl

  use_same : (k : Text) (m : Meaning) (v : Value) (os ps : List (Part × Outcome)) → ps ≡ os
      → use_of (record rules { schemas = other }) again (of_schema a t) k m v ps ≡ use_of (record rules { schemas = table }) run a k m v os
  use_same k m v os ps e =
      ap (use_of (record rules { schemas = other }) again (of_schema a t) k m v) e
      ∙ ap₂ (λ b n. record {
        keyword = k;
        passes = b;
        outcomes = os;
        names = evaluated_names m os;
        indexes = evaluated_indexes m os;
        annotation = n;
        annotates = may_annotate m;
      }) (passes_same k m v os) (annotation_same a t m os)

  used_same : (names : List Text) (indexes : List ℕ) (k : Keyword) → is_changed k.name ≡ false → fits k.meaning k.name (shape_in keywords k.name) ≡ true
      → uses_by_keyword (record rules { schemas = other }) again names indexes (of_schema a t) k (get k.name t.value)
      ≡ uses_by_keyword (record rules { schemas = table }) run names indexes a k (get k.name a.schema.value)
  used_same names indexes k kept fit =
      ap (uses_by_keyword (record rules { schemas = other }) again names indexes (of_schema a t) k) (alike_get k.name a.schema t kept c.alike)
      ∙ by (get k.name a.schema.value) refl
    where
      by : (o : Option Value) → get k.name a.schema.value ≡ o
          → uses_by_keyword (record rules { schemas = other }) again names indexes (of_schema a t) k o ≡ uses_by_keyword (record rules { schemas = table }) run names indexes a k o
      by None e = refl
      by (Some v) e =
          ap (λ u. u ∷ [])
          (use_same k.name k.meaning v (outcomes run (keyword_applications (record rules { schemas = table }) run names indexes a k.name k.meaning v))
          (outcomes again (keyword_applications (record rules { schemas = other }) again names indexes (of_schema a t) k.name k.meaning v))
          (applied_same table other run again a t c rules names indexes k.name k.meaning v (get_in k.name a.schema.value v e) fit))

-- ---- the keywords of a whole object
-- those that look at what the others evaluated come after them
abbrev pub all_uses : Rules → (Application → Outcome) → List Keyword → List Keyword → Application → List Use
all_uses rules run first last a =
    let us = uses_of rules run first [] [] a in
    us ++ uses_of rules run last (flat_map (λ u. u.names) us) (flat_map (λ u. u.indexes) us) a

module _ (table other : List Schema) (run again : Application → Outcome) (a : Application) (t : Schema) (c : IsSetting table other run again (application_within a) t) (rules : Rules) where
  keyword_same : (names : List Text) (indexes : List ℕ) (k : Keyword) → IsIn k keywords
      → AreSameUses a (of_schema a t) (uses_by_keyword (record rules { schemas = table }) run names indexes (application_within a) k (get k.name a.schema.value))
      (uses_by_keyword (record rules { schemas = other }) again names indexes (of_schema (application_within a) t) k (get k.name t.value))
  keyword_same names indexes k i = by (is_changed k.name) refl (and_parts (fits k.meaning k.name (shape_in keywords k.name)) (not (is_changed k.name) || declares_only k.meaning) (all_pass_in row_fits keywords k rows_fit i))
    where
      only : (b : Bool) → b ≡ true → (not b || declares_only k.meaning) ≡ true → declares_only k.meaning ≡ true
      only true e h = h
      only false e h = absurd (cc)

      by : (changed : Bool) → is_changed k.name ≡ changed → (fits k.meaning k.name (shape_in keywords k.name) ≡ true) × ((not (is_changed k.name) || declares_only k.meaning) ≡ true)
          → AreSameUses a (of_schema a t) (uses_by_keyword (record rules { schemas = table }) run names indexes (application_within a) k (get k.name a.schema.value))
          (uses_by_keyword (record rules { schemas = other }) again names indexes (of_schema (application_within a) t) k (get k.name t.value))
      by true e h =
          let meaning = declares_is k.meaning (only (is_changed k.name) e h.1) in
          nothing_same a (of_schema a t) _ _
          (declared_nothing (record rules { schemas = table }) run names indexes (application_within a) k (get k.name a.schema.value) meaning)
          (declared_nothing (record rules { schemas = other }) again names indexes (of_schema (application_within a) t) k (get k.name t.value) meaning)
      by false e h = equal_same a t c.alike _ _ (used_same table other run again (application_within a) t c rules names indexes k e h.0)

  uses_same : (rows : List Keyword) → ((k : Keyword) → IsIn k rows → IsIn k keywords) → (names : List Text) (indexes : List ℕ)
      → AreSameUses a (of_schema a t) (uses_of (record rules { schemas = table }) run rows names indexes (application_within a))
      (uses_of (record rules { schemas = other }) again rows names indexes (of_schema (application_within a) t))
  uses_same [] held names indexes = equal_same a t c.alike [] [] refl
  uses_same (k ∷ rows) held names indexes =
      same_append a (of_schema a t) _ _ _ _ (keyword_same names indexes k (held k (inl refl))) (uses_same rows (λ l i. held l (inr i)) names indexes)

  all_same : (first last : List Keyword) → ((k : Keyword) → IsIn k first → IsIn k keywords) → ((k : Keyword) → IsIn k last → IsIn k keywords)
      → AreSameUses a (of_schema a t) (all_uses (record rules { schemas = table }) run first last (application_within a))
      (all_uses (record rules { schemas = other }) again first last (of_schema (application_within a) t))
  all_same first last held also =
      let firsts = uses_same first held [] [] in
      let us : List Use = uses_of (record rules { schemas = table }) run first [] [] (application_within a) in
      let lasts = uses_same last also (flat_map (λ u. u.names) us) (flat_map (λ u. u.indexes) us) in
      same_append a (of_schema a t) _ _ _ _ firsts
      (subst (AreSameUses a (of_schema a t) (uses_of (record rules { schemas = table }) run last (flat_map (λ u. u.names) us) (flat_map (λ u. u.indexes) us) (application_within a)))
      (ap₂ (λ ns is. uses_of (record rules { schemas = other }) again last ns is (of_schema (application_within a) t)) (sym firsts.names) (sym firsts.indexes)) lasts)

-- ---- an object's own annotations
not_changed_annotation : (schema x : Value) (name : Text) → is_changed name ≡ true → is_annotation schema x name ≡ false
not_changed_annotation schema x name h = by (same_text name (codes "$id")) refl h
  where
    by : (b : Bool) → same_text name (codes "$id") ≡ b → (b || same_text name (codes "$defs")) ≡ true → is_annotation schema x name ≡ false
    by true e h = ap (is_annotation schema x) (same_text_is name (codes "$id") e)
    by false e h = ap (is_annotation schema x) (same_text_is name (codes "$defs") h)

units_same : (a : Application) (t : Schema) → IsAlikeSchema a.schema t → (ms : List (Text × Value)) → map (λ m. unit (of_schema a t) m.0 m.1) ms ≡ map (λ m. unit a m.0 m.1) ms
units_same a t h [] = refl
units_same a t h (m ∷ ms) = ap₂ (λ x xs. x ∷ xs) (unit_same a t m.0 m.1 h) (units_same a t h ms)

others_same : (a : Application) (t : Schema) → IsAlikeSchema a.schema t → other_annotations (of_schema a t) ≡ other_annotations a
others_same a t h =
    let p = λ (m : Text × Value). is_annotation a.schema.value a.instance m.0 in
    let none : (m : Text × Value) → is_changed m.0 ≡ true → is_annotation a.schema.value a.instance m.0 ≡ false = λ m e. not_changed_annotation a.schema.value a.instance m.0 e in
    units_same a t h (filter (λ m. is_annotation t.value a.instance m.0) (members t.value))
    ∙ ap (map (λ m. unit a m.0 m.1))
    (filter_agree (λ m. is_annotation t.value a.instance m.0) p (λ m. annotation_by m.0) (members t.value)
    ∙ sym (filter_kept p (members t.value) none)
    ∙ ap (filter p) (kept_alike a.schema.value t.value h.1)
    ∙ filter_kept p (members a.schema.value) none)
  where
    annotation_by : (name : Text) → is_annotation t.value a.instance name ≡ is_annotation a.schema.value a.instance name
    annotation_by name =
        ap (λ o. cond (same_text name (codes "contentSchema")) (is_string a.instance && is_some o) (cond (has name (codes "contentEncoding" ∷ codes "contentMediaType" ∷ [])) (is_string a.instance) (not (is_keyword_of keywords name || begins name (codes "$")))))
        (alike_get (codes "contentMediaType") a.schema t refl h)

-- ---- the outcome
combined_same : (a b : Application) (us vs : List Use) → AreSameUses a b us vs → other_annotations b ≡ other_annotations a → outcome_of_uses b vs ≡ outcome_of_uses a us
combined_same a b us vs h o = rw (h.passes, h.names, h.indexes, h.errors, h.annotations, o, h.count, h.looped, h.deep) refl

pub object_same : (table other : List Schema) (run again : Application → Outcome) (a : Application) (t : Schema) → IsSetting table other run again (application_within a) t → (rules : Rules)
    → ((k : Keyword) → IsIn k rules.keywords → IsIn k keywords)
    → object_outcome (record rules { schemas = other }) again (of_schema a t) ≡ object_outcome (record rules { schemas = table }) run a
unfolding object_outcome
object_same table other run again a t c rules held =
    let first : List Keyword = filter (λ k. not (looks_at_evaluated k.meaning)) rules.keywords in
    let last : List Keyword = filter (λ k. looks_at_evaluated k.meaning) rules.keywords in
    let here : application_within (of_schema a t) ≡ of_schema (application_within a) t =
    ap₂ (λ r i. record { schema = t; instance = a.instance; instance_location = a.instance_location; path = a.path; scope = a.scope ++ r ∷ []; running = a.running ++ (i, a.instance_location) ∷ [] })
    (alike_resource a.schema t c.alike) (c.alike.0) in
    ap (λ b. outcome_of_uses (of_schema a t) (all_uses (record rules { schemas = other }) again first last b)) here
    ∙ combined_same a (of_schema a t) (all_uses (record rules { schemas = table }) run first last (application_within a)) (all_uses (record rules { schemas = other }) again first last (of_schema (application_within a) t))
    (all_same table other run again a t c rules first last (λ k i. held k (from_filter _ rules.keywords k i)) (λ k i. held k (from_filter _ rules.keywords k i)))
    (others_same a t c.alike)
