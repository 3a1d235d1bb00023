-- Alike schemas, applied in the same way, apply the same schemas, or alike ones.
use Rattle.std.proofs.Common.{◌≡◌, ◌||◌, ◌++◌, ◌==◌, ℕ, List, [], ◌∷◌, Bool, true, false, not, cond, Option, Some, None, map, length, drop, decimal, is_some, option_map, option_and_then, unwrap_or, codes, refl, sym, ap, ap₂, ◌∙◌, inl, inr}
use Rattle.std.proofs.lemmas.List.{map-append}
use Rattle.std.proofs.lemmas.List.Elements.{filter_agree}
use Rattle.std.specs.List.{flat_map, filter, enumerate_from, list_any, zip}
use Rattle.definitions.specs.Values.{Text, Value, null, string, same_text, get, entry, elements, members}
use Rattle.definitions.specs.Alike.{IsAlikeSchema}
use Rattle.definitions.specs.Pointers.{Pointer}
use Rattle.definitions.specs.Keywords.{keywords, shape_in, Meaning, refers, refers_dynamically, all_of, any_of, one_of, negation, condition, consequence, dependent_schemas, prefix_items, items, contains, properties, pattern_properties, additional_properties, property_names, unevaluated_items, unevaluated_properties}
use Rattle.definitions.specs.Schemas.{Schema, below, reference_at, references}
use Rattle.definitions.specs.Targets.{target, dynamic_target}
use Rattle.definitions.specs.Applied.{Application, Outcome, Part, whole, named, indexed, name_of, Rules, part_application, at_part, in_place, to_target, list_applications, at_items, at_members, at_present, has, beside, consequence_of, condition_outcome, contains_outcomes, is_taken, keyword_applications}
use Rattle.lemmas.proofs.Texts.{same_text_is}
use Rattle.definition_laws.proofs.Occurrences.{IsIn, from_filter, zipped_first}
use Rattle.definition_laws.proofs.Places.{IsStep}
use Rattle.definition_laws.proofs.Unbundled.{is_changed}
use Rattle.definition_laws.proofs.Targets.{AlikeIn, equal_alike, below_alike, alike_get, alike_reference, referred_alike, static_reference, dynamic_reference}
use Rattle.definition_laws.proofs.KeywordShapes.{step_one, step_listed, step_named, is_one, is_list, is_map, one_is, list_is, map_is, fits}

-- ---- lists of the same outcomes
abbrev pub outcome_of : (Application → Outcome) → Part × Application → Part × Outcome
outcome_of run e = (e.0, run e.1)

abbrev pub outcomes : (Application → Outcome) → List (Part × Application) → List (Part × Outcome)
outcomes run es = map (outcome_of run) es

mapped_same : {X : Type 0} (run other : Application → Outcome) (f g : X → Part × Application) (xs : List X) → ((x : X) → IsIn x xs → outcome_of other (g x) ≡ outcome_of run (f x))
    → outcomes other (map g xs) ≡ outcomes run (map f xs)
mapped_same run other f g [] h = refl
mapped_same run other f g (x ∷ xs) h = ap₂ (λ y ys. y ∷ ys) (h x (inl refl)) (mapped_same run other f g xs (λ z i. h z (inr i)))

flattened_same : {X : Type 0} (run other : Application → Outcome) (f g : X → List (Part × Application)) (xs : List X) → ((x : X) → IsIn x xs → outcomes other (g x) ≡ outcomes run (f x))
    → outcomes other (flat_map g xs) ≡ outcomes run (flat_map f xs)
flattened_same run other f g [] h = refl
flattened_same run other f g (x ∷ xs) h =
    map-append (outcome_of other) (g x) (flat_map g xs)
    ∙ ap₂ (λ y z. y ++ z) (h x (inl refl)) (flattened_same run other f g xs (λ z i. h z (inr i)))
    ∙ sym (map-append (outcome_of run) (f x) (flat_map f xs))

-- ---- the same application, but of another schema
abbrev pub of_schema : Application → Schema → Application
of_schema a t = record a { schema = t }

-- a schema's application and that of an alike one, each with the outcomes of what it applies
pub record IsSetting (table other : List Schema) (run again : Application → Outcome) (a : Application) (t : Schema) : Type 0 where
  pub alike : IsAlikeSchema a.schema t
  pub steps : (u : Schema) (way : Pointer) → IsStep keywords a.schema u way → IsIn u table
  pub runs : (b : Application) (u : Schema) → IsIn b.schema table → IsAlikeSchema b.schema u → b.scope ≡ a.scope → again (of_schema b u) ≡ run b
  pub targets : (r : Text) → IsIn r (references a.schema) → AlikeIn table (target table r) (target other r)
  pub dynamic_targets : (r : Text) → IsIn r (references a.schema) → AlikeIn table (dynamic_target table a.scope r) (dynamic_target other a.scope r)

pub beside_same : (k : Text) (a : Application) (t : Schema) → is_changed k ≡ false → IsAlikeSchema a.schema t → beside (of_schema a t) k ≡ beside a k
beside_same k a t e h = ap (λ o. unwrap_or o null) (alike_get k a.schema t e h)

got_in : (name : Text) (ms : List (Text × Value)) (v : Value) → entry name ms ≡ Some v → IsIn (name, v) ms
got_in name [] v e = absurd (cc)
got_in name (m ∷ ms) v e = by (same_text name m.0) refl e (got_in name ms v)
  where
    by : (b : Bool) → same_text name m.0 ≡ b → cond b (Some m.1) (entry name ms) ≡ Some v → (entry name ms ≡ Some v → IsIn (name, v) ms) → IsIn (name, v) (m ∷ ms)
    by true s f later = inl (ap₂ (λ x y. (x, y)) (sym (same_text_is name m.0 s)) (cc))
    by false s f later = inr (later f)

pub get_in : (name : Text) (x : Value) (v : Value) → get name x ≡ Some v → IsIn (name, v) (members x)
get_in name x v e = got_in name (members x) v e

module _ (table other : List Schema) (run again : Application → Outcome) (a : Application) (t : Schema) (c : IsSetting table other run again a t) where
  part_same : (way : Pointer) (u : Value) (part : Part) (x : Value) → IsStep keywords a.schema (below a.schema way u) way
      → outcome_of again (at_part (of_schema a t) way u part x) ≡ outcome_of run (at_part a way u part x)
  part_same way u part x step =
      ap (λ o. (part, o))
      (c.runs (at_part a way u part x).1 (below t way u) (c.steps (below a.schema way u) way step)
      (equal_alike (below a.schema way u) (below t way u) (below_alike a.schema t way u c.alike)) refl)

  to_target_same : (k : Text) (o p : Option Schema) → AlikeIn table o p → outcomes again (to_target (of_schema a t) k p) ≡ outcomes run (to_target a k o)
  to_target_same k None None h = refl
  to_target_same k None (Some u) h = absurd h
  to_target_same k (Some s) None h = absurd h
  to_target_same k (Some s) (Some u) h = ap (λ o. (whole, o) ∷ []) (c.runs (part_application a (k ∷ []) s whole a.instance) u h.0 h.1 refl)

  listed_same : (k : Text) (v : Value) → IsIn (k, v) (members a.schema.value) → is_list (shape_in keywords k) ≡ true
      → outcomes again (list_applications (of_schema a t) k v) ≡ outcomes run (list_applications a k v)
  listed_same k v i h =
      mapped_same run again (λ e. in_place a (k ∷ decimal e.0 ∷ []) e.1) (λ e. in_place (of_schema a t) (k ∷ decimal e.0 ∷ []) e.1) (enumerate_from 0 (elements v))
      (λ e j. part_same (k ∷ decimal e.0 ∷ []) e.1 whole a.instance (step_listed a.schema k v e i (list_is _ h) j))

  one_same : (k : Text) (v : Value) (part : Part) (x : Value) → IsIn (k, v) (members a.schema.value) → is_one (shape_in keywords k) ≡ true
      → outcome_of again (at_part (of_schema a t) (k ∷ []) v part x) ≡ outcome_of run (at_part a (k ∷ []) v part x)
  one_same k v part x i h = part_same (k ∷ []) v part x (step_one a.schema k v i (one_is _ h))

  items_same : (k : Text) (v : Value) (n : ℕ) (xs : List Value) → IsIn (k, v) (members a.schema.value) → is_one (shape_in keywords k) ≡ true
      → outcomes again (at_items (of_schema a t) k v n xs) ≡ outcomes run (at_items a k v n xs)
  items_same k v n xs i h =
      mapped_same run again (λ e. at_part a (k ∷ []) v (indexed e.0) e.1) (λ e. at_part (of_schema a t) (k ∷ []) v (indexed e.0) e.1) (enumerate_from n xs)
      (λ e j. one_same k v (indexed e.0) e.1 i h)

  members_same : (k : Text) (v : Value) (ms : List (Text × Value)) → IsIn (k, v) (members a.schema.value) → is_one (shape_in keywords k) ≡ true
      → outcomes again (at_members (of_schema a t) k v ms) ≡ outcomes run (at_members a k v ms)
  members_same k v ms i h =
      mapped_same run again (λ m. at_part a (k ∷ []) v (named m.0) m.1) (λ m. at_part (of_schema a t) (k ∷ []) v (named m.0) m.1) ms
      (λ m j. one_same k v (named m.0) m.1 i h)

  condition_same : condition_outcome again (of_schema a t) ≡ condition_outcome run a
  condition_same =
      ap (option_map (λ v. again (in_place (of_schema a t) (codes "if" ∷ []) v).1)) (alike_get (codes "if") a.schema t refl c.alike)
      ∙ by (get (codes "if") a.schema.value) refl
    where
      by : (o : Option Value) → get (codes "if") a.schema.value ≡ o
          → option_map (λ v. again (in_place (of_schema a t) (codes "if" ∷ []) v).1) o ≡ option_map (λ v. run (in_place a (codes "if" ∷ []) v).1) o
      by None e = refl
      by (Some v) e = ap (λ x. Some x.1) (one_same (codes "if") v whole a.instance (get_in (codes "if") a.schema.value v e) refl)

  pub contains_same : contains_outcomes again (of_schema a t) ≡ contains_outcomes run a
  contains_same =
      ap (option_map (λ v. map (λ e. again e.1) (at_items (of_schema a t) (codes "contains") v 0 (elements a.instance)))) (alike_get (codes "contains") a.schema t refl c.alike)
      ∙ by (get (codes "contains") a.schema.value) refl
    where
      seconds : (r : Application → Outcome) (es : List (Part × Application)) → map (λ e. r e.1) es ≡ map (λ o. o.1) (outcomes r es)
      seconds r [] = refl
      seconds r (e ∷ es) = ap (λ os. r e.1 ∷ os) (seconds r es)

      by : (o : Option Value) → get (codes "contains") a.schema.value ≡ o
          → option_map (λ v. map (λ e. again e.1) (at_items (of_schema a t) (codes "contains") v 0 (elements a.instance))) o
          ≡ option_map (λ v. map (λ e. run e.1) (at_items a (codes "contains") v 0 (elements a.instance))) o
      by None e = refl
      by (Some v) e =
          ap (λ os. Some os)
          (seconds again (at_items (of_schema a t) (codes "contains") v 0 (elements a.instance))
          ∙ ap (map (λ o. o.1)) (items_same (codes "contains") v 0 (elements a.instance) (get_in (codes "contains") a.schema.value v e) refl)
          ∙ sym (seconds run (at_items a (codes "contains") v 0 (elements a.instance))))

  present_same : (k : Text) (v : Value) (m : Text × Value) (o : Option Value) → IsIn (k, v) (members a.schema.value) → is_map (shape_in keywords k) ≡ true → IsIn m (members v)
      → outcomes again (at_present (of_schema a t) k m o) ≡ outcomes run (at_present a k m o)
  present_same k v m None i h j = refl
  present_same k v m (Some x) i h j = ap (λ y. y ∷ []) (part_same (k ∷ m.0 ∷ []) m.1 (named m.0) x (step_named a.schema k v m i (map_is _ h) j))

  consequence_same : (k : Text) (wanted : Bool) (v : Value) (o : Option Outcome) → IsIn (k, v) (members a.schema.value) → is_one (shape_in keywords k) ≡ true
      → outcomes again (consequence_of (of_schema a t) k wanted v o) ≡ outcomes run (consequence_of a k wanted v o)
  consequence_same k wanted v None i h = refl
  consequence_same k true v (Some o) i h = by o.valid
    where
      by : (b : Bool) → outcomes again (cond b (in_place (of_schema a t) (k ∷ []) v ∷ []) []) ≡ outcomes run (cond b (in_place a (k ∷ []) v ∷ []) [])
      by true = ap (λ y. y ∷ []) (one_same k v whole a.instance i h)
      by false = refl
  consequence_same k false v (Some o) i h = by o.valid
    where
      by : (b : Bool) → outcomes again (cond b [] (in_place (of_schema a t) (k ∷ []) v ∷ [])) ≡ outcomes run (cond b [] (in_place a (k ∷ []) v ∷ []))
      by true = refl
      by false = ap (λ y. y ∷ []) (one_same k v whole a.instance i h)

  taken_same : (rules : Rules) (name : Text) → is_taken (record rules { schemas = other }) (of_schema a t) name ≡ is_taken (record rules { schemas = table }) a name
  taken_same rules name =
      ap₂ (λ b d. is_some (get name b) || list_any (λ p. rules.matches p.0 name) (members d))
      (beside_same (codes "properties") a t refl c.alike) (beside_same (codes "patternProperties") a t refl c.alike)

  refers_same : (k : Text) → same_text k (codes "$ref") ≡ true
      → outcomes again (to_target (of_schema a t) k (option_and_then (target other) (reference_at k t)))
      ≡ outcomes run (to_target a k (option_and_then (target table) (reference_at k a.schema)))
  refers_same k h =
      let name : k ≡ codes "$ref" = same_text_is k (codes "$ref") h in
      ap (λ o. outcomes again (to_target (of_schema a t) k (option_and_then (target other) o))) (alike_reference k a.schema t (ap is_changed name) c.alike)
      ∙ to_target_same k (option_and_then (target table) (reference_at k a.schema)) (option_and_then (target other) (reference_at k a.schema))
      (referred_alike table (target table) (target other) (reference_at k a.schema)
      (λ r f. c.targets r (static_reference a.schema r (ap (λ n. reference_at n a.schema) (sym name) ∙ f))))

  refers_dynamically_same : (k : Text) → same_text k (codes "$dynamicRef") ≡ true
      → outcomes again (to_target (of_schema a t) k (option_and_then (dynamic_target other a.scope) (reference_at k t)))
      ≡ outcomes run (to_target a k (option_and_then (dynamic_target table a.scope) (reference_at k a.schema)))
  refers_dynamically_same k h =
      let name : k ≡ codes "$dynamicRef" = same_text_is k (codes "$dynamicRef") h in
      ap (λ o. outcomes again (to_target (of_schema a t) k (option_and_then (dynamic_target other a.scope) o))) (alike_reference k a.schema t (ap is_changed name) c.alike)
      ∙ to_target_same k (option_and_then (dynamic_target table a.scope) (reference_at k a.schema)) (option_and_then (dynamic_target other a.scope) (reference_at k a.schema))
      (referred_alike table (dynamic_target table a.scope) (dynamic_target other a.scope) (reference_at k a.schema)
      (λ r f. c.dynamic_targets r (dynamic_reference a.schema r (ap (λ n. reference_at n a.schema) (sym name) ∙ f))))

  pub applied_same : (rules : Rules) (names : List Text) (indexes : List ℕ) (k : Text) (m : Meaning) (v : Value) → IsIn (k, v) (members a.schema.value) → fits m k (shape_in keywords k) ≡ true
      → outcomes again (keyword_applications (record rules { schemas = other }) again names indexes (of_schema a t) k m v)
      ≡ outcomes run (keyword_applications (record rules { schemas = table }) run names indexes a k m v)
  applied_same rules names indexes k refers v i h = refers_same k h
  applied_same rules names indexes k refers_dynamically v i h = refers_dynamically_same k h
  applied_same rules names indexes k all_of v i h = listed_same k v i h
  applied_same rules names indexes k any_of v i h = listed_same k v i h
  applied_same rules names indexes k one_of v i h = listed_same k v i h
  applied_same rules names indexes k negation v i h = ap (λ y. y ∷ []) (one_same k v whole a.instance i h)
  applied_same rules names indexes k condition v i h = ap (λ y. y ∷ []) (one_same k v whole a.instance i h)
  applied_same rules names indexes k (consequence wanted) v i h =
      ap (λ o. outcomes again (consequence_of (of_schema a t) k wanted v o)) condition_same ∙ consequence_same k wanted v (condition_outcome run a) i h
  applied_same rules names indexes k dependent_schemas v i h =
      mapped_same run again (λ m. in_place a (k ∷ m.0 ∷ []) m.1) (λ m. in_place (of_schema a t) (k ∷ m.0 ∷ []) m.1) (filter (λ m. is_some (get m.0 a.instance)) (members v))
      (λ m j. part_same (k ∷ m.0 ∷ []) m.1 whole a.instance (step_named a.schema k v m i (map_is _ h) (from_filter _ (members v) m j)))
  applied_same rules names indexes k prefix_items v i h =
      mapped_same run again (λ e. at_part a (k ∷ decimal (e.0).0 ∷ []) (e.0).1 (indexed (e.0).0) e.1) (λ e. at_part (of_schema a t) (k ∷ decimal (e.0).0 ∷ []) (e.0).1 (indexed (e.0).0) e.1)
      (zip (enumerate_from 0 (elements v)) (elements a.instance))
      (λ e j. part_same (k ∷ decimal (e.0).0 ∷ []) (e.0).1 (indexed (e.0).0) e.1
      (step_listed a.schema k v e.0 i (list_is _ h) (zipped_first (enumerate_from 0 (elements v)) (elements a.instance) e j)))
  applied_same rules names indexes k items v i h =
      ap (λ b. outcomes again (at_items (of_schema a t) k v (length (elements b)) (drop (length (elements b)) (elements a.instance)))) (beside_same (codes "prefixItems") a t refl c.alike)
      ∙ items_same k v (length (elements (beside a (codes "prefixItems")))) (drop (length (elements (beside a (codes "prefixItems")))) (elements a.instance)) i h
  applied_same rules names indexes k contains v i h = items_same k v 0 (elements a.instance) i h
  applied_same rules names indexes k properties v i h =
      flattened_same run again (λ m. at_present a k m (get m.0 a.instance)) (λ m. at_present (of_schema a t) k m (get m.0 a.instance)) (members v)
      (λ m j. present_same k v m (get m.0 a.instance) i h j)
  applied_same rules names indexes k pattern_properties v i h =
      flattened_same run again
      (λ m. map (λ p. at_part a (k ∷ p.0 ∷ []) p.1 (named m.0) m.1) (filter (λ p. rules.matches p.0 m.0) (members v)))
      (λ m. map (λ p. at_part (of_schema a t) (k ∷ p.0 ∷ []) p.1 (named m.0) m.1) (filter (λ p. rules.matches p.0 m.0) (members v)))
      (members a.instance)
      (λ m j. mapped_same run again (λ p. at_part a (k ∷ p.0 ∷ []) p.1 (named m.0) m.1) (λ p. at_part (of_schema a t) (k ∷ p.0 ∷ []) p.1 (named m.0) m.1)
      (filter (λ p. rules.matches p.0 m.0) (members v))
      (λ p l. part_same (k ∷ p.0 ∷ []) p.1 (named m.0) m.1 (step_named a.schema k v p i (map_is _ h) (from_filter _ (members v) p l))))
  applied_same rules names indexes k additional_properties v i h =
      ap (λ ms. outcomes again (at_members (of_schema a t) k v ms))
      (filter_agree (λ m. not (is_taken (record rules { schemas = other }) (of_schema a t) m.0)) (λ m. not (is_taken (record rules { schemas = table }) a m.0))
      (λ m. ap not (taken_same rules m.0)) (members a.instance))
      ∙ members_same k v (filter (λ m. not (is_taken (record rules { schemas = table }) a m.0)) (members a.instance)) i h
  applied_same rules names indexes k property_names v i h =
      mapped_same run again (λ m. at_part a (k ∷ []) v (name_of m.0) (string m.0)) (λ m. at_part (of_schema a t) (k ∷ []) v (name_of m.0) (string m.0)) (members a.instance)
      (λ m j. one_same k v (name_of m.0) (string m.0) i h)
  applied_same rules names indexes k unevaluated_items v i h =
      mapped_same run again (λ e. at_part a (k ∷ []) v (indexed e.0) e.1) (λ e. at_part (of_schema a t) (k ∷ []) v (indexed e.0) e.1)
      (filter (λ e. not (list_any (λ i. i == e.0) indexes)) (enumerate_from 0 (elements a.instance)))
      (λ e j. one_same k v (indexed e.0) e.1 i h)
  applied_same rules names indexes k unevaluated_properties v i h = members_same k v (filter (λ m. not (has m.0 names)) (members a.instance)) i h
  applied_same rules names indexes k _ v i h = refl
