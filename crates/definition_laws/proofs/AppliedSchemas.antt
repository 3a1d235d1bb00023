-- What a keyword of a schema in a table applies stands in the table too.
use Rattle.std.proofs.Common.{◌≡◌, ◌==◌, ℕ, List, [], ◌∷◌, Bool, true, false, cond, not, Option, Some, None, map, length, drop, decimal, is_some, option_and_then, option_map, unwrap_or, codes, Result, Ok, Err, refl, sym, subst, inl, inr}
use Rattle.std.specs.List.{flat_map, filter, enumerate_from, list_all, list_any, zip}
use Rattle.definitions.specs.Values.{Text, Value, string, get, elements, members}
use Rattle.definitions.specs.Faults.{Fault}
use Rattle.definitions.specs.Fragments.{Fragment, no_fragment, tokens, plain_name}
use Rattle.definitions.specs.Pointers.{Pointer}
use Rattle.definitions.specs.Keywords.{keywords, shape_in, Meaning, refers, refers_dynamically, all_of, any_of, one_of, negation, condition, consequence, dependent_schemas, prefix_items, items, contains, properties, pattern_properties, additional_properties, property_names, unevaluated_items, unevaluated_properties}
use Rattle.definitions.specs.Schemas.{Schema, below, reference_at, table_of}
use Rattle.definitions.specs.Targets.{target, dynamic_target, dynamic_by, schema_with_dynamic_anchor, is_dynamic_anchor, outermost, fragment_of}
use Rattle.definitions.specs.Applied.{Application, Outcome, Part, whole, named, indexed, name_of, Rules, part_application, at_part, in_place, to_target, at_present, has, beside, consequence_of, condition_outcome, is_taken, keyword_applications}
use Rattle.definition_laws.proofs.Occurrences.{IsIn, in_map, in_flat_map, from_filter, zipped_first, all_pass_in, in_from_contains, contains_from_in}
use Rattle.definition_laws.proofs.Places.{IsStep}
use Rattle.definition_laws.proofs.Tables.{IsClosed, table_closed, step_closed, target_held, dynamically_anchored_in}
use Rattle.definition_laws.proofs.Applying.{get_in}
use Rattle.definition_laws.proofs.KeywordShapes.{fits, is_one, is_list, is_map, one_is, list_is, map_is, step_one, step_listed, step_named}
use Rattle.definition_laws.specs.Applications.{AppliedSchemasAreKnown}

-- ---- a dynamic reference
outermost_in : (table : List Schema) (scope : List Text) (name : Text) (s : Schema) → IsIn s table → IsIn (outermost table scope name s) table
outermost_in table [] name s i = i
outermost_in table (uri ∷ scope) name s i = by (schema_with_dynamic_anchor table uri name) refl (outermost_in table scope name s i)
  where
    by : (o : Option Schema) → schema_with_dynamic_anchor table uri name ≡ o → IsIn (outermost table scope name s) table → IsIn (unwrap_or o (outermost table scope name s)) table
    by None e later = later
    by (Some t) e later = dynamically_anchored_in table uri name t e

dynamic_by_in : (table : List Schema) (scope : List Text) (s : Schema) (f : Result Fragment Fault) → IsIn s table → IsIn (dynamic_by table scope s f) table
dynamic_by_in table scope s (Ok no_fragment) i = i
dynamic_by_in table scope s (Ok (tokens way)) i = i
dynamic_by_in table scope s (Ok (plain_name n)) i = by (is_dynamic_anchor n s)
  where
    by : (b : Bool) → IsIn (cond b (outermost table scope n s) s) table
    by true = outermost_in table scope n s i
    by false = i
dynamic_by_in table scope s (Err f) i = i

dynamic_target_held : (table : List Schema) → IsClosed table → (scope : List Text) (text : Text) (s : Schema) → dynamic_target table scope text ≡ Some s → IsIn s table
dynamic_target_held table closed scope text s e = by (target table text) refl e
  where
    by : (o : Option Schema) → target table text ≡ o → option_map (λ first. dynamic_by table scope first (fragment_of text)) o ≡ Some s → IsIn s table
    by None f g = absurd (cc)
    by (Some first) f g = subst (λ t. IsIn t table) (cc) (dynamic_by_in table scope first (fragment_of text) (target_held table closed text first f))

module _ (rules : Rules) (closed : IsClosed rules.schemas) (run : Application → Outcome) (a : Application) (inside : IsIn a.schema rules.schemas) where
  abbrev IsKnown : Part × Application → Type 0
  IsKnown e = IsIn e.1.schema rules.schemas

  abbrev AreKnown : List (Part × Application) → Type 0
  AreKnown es = (e : Part × Application) → IsIn e es → IsKnown e

  step_known : (way : Pointer) (u : Value) → IsStep keywords a.schema (below a.schema way u) way → IsIn (below a.schema way u) rules.schemas
  step_known way u step = step_closed rules.schemas closed a.schema (below a.schema way u) way inside step

  none_known : AreKnown []
  none_known e i = absurd i

  alone_known : (e : Part × Application) → IsKnown e → AreKnown (e ∷ [])
  alone_known e k d (inl same) = subst IsKnown same k
  alone_known e k d (inr i) = absurd i

  mapped_known : {X : Type 0} (f : X → Part × Application) (xs : List X) → ((x : X) → IsIn x xs → IsKnown (f x)) → AreKnown (map f xs)
  mapped_known f xs h e i = let r = in_map f xs e i in subst IsKnown r.2 (h r.0 r.1)

  flattened_known : {X : Type 0} (f : X → List (Part × Application)) (xs : List X) → ((x : X) → IsIn x xs → AreKnown (f x)) → AreKnown (flat_map f xs)
  flattened_known f xs h e i = let r = in_flat_map f xs e i in h r.0 r.1 e r.2

  target_known : (k : Text) (o : Option Schema) → ((s : Schema) → o ≡ Some s → IsIn s rules.schemas) → AreKnown (to_target a k o)
  target_known k None h = none_known
  target_known k (Some s) h = alone_known (whole, part_application a (k ∷ []) s whole a.instance) (h s refl)

  referred_known : (find : Text → Option Schema) (o : Option Text) → ((r : Text) (s : Schema) → find r ≡ Some s → IsIn s rules.schemas)
      → (s : Schema) → option_and_then find o ≡ Some s → IsIn s rules.schemas
  referred_known find None h s e = absurd (cc)
  referred_known find (Some r) h s e = h r s e

  module _ (k : Text) (v : Value) (i : IsIn (k, v) (members a.schema.value)) where
    one_known : is_one (shape_in keywords k) ≡ true → (part : Part) (x : Value) → IsKnown (at_part a (k ∷ []) v part x)
    one_known h part x = step_known (k ∷ []) v (step_one a.schema k v i (one_is _ h))

    listed_known : is_list (shape_in keywords k) ≡ true → (e : ℕ × Value) → IsIn e (enumerate_from 0 (elements v)) → (part : Part) (x : Value) → IsKnown (at_part a (k ∷ decimal e.0 ∷ []) e.1 part x)
    listed_known h e j part x = step_known (k ∷ decimal e.0 ∷ []) e.1 (step_listed a.schema k v e i (list_is _ h) j)

    named_known : is_map (shape_in keywords k) ≡ true → (m : Text × Value) → IsIn m (members v) → (part : Part) (x : Value) → IsKnown (at_part a (k ∷ m.0 ∷ []) m.1 part x)
    named_known h m j part x = step_known (k ∷ m.0 ∷ []) m.1 (step_named a.schema k v m i (map_is _ h) j)

    present_known : is_map (shape_in keywords k) ≡ true → (m : Text × Value) → IsIn m (members v) → (o : Option Value) → AreKnown (at_present a k m o)
    present_known h m j None = none_known
    present_known h m j (Some x) = alone_known (at_part a (k ∷ m.0 ∷ []) m.1 (named m.0) x) (named_known h m j (named m.0) x)

    consequence_known : is_one (shape_in keywords k) ≡ true → (wanted : Bool) (o : Option Outcome) → AreKnown (consequence_of a k wanted v o)
    consequence_known h wanted None = none_known
    consequence_known h true (Some o) = by o.valid
      where
        by : (b : Bool) → AreKnown (cond b (in_place a (k ∷ []) v ∷ []) [])
        by true = alone_known (in_place a (k ∷ []) v) (one_known h whole a.instance)
        by false = none_known
    consequence_known h false (Some o) = by o.valid
      where
        by : (b : Bool) → AreKnown (cond b [] (in_place a (k ∷ []) v ∷ []))
        by true = none_known
        by false = alone_known (in_place a (k ∷ []) v) (one_known h whole a.instance)

    applied_known : (names : List Text) (indexes : List ℕ) (m : Meaning) → fits m k (shape_in keywords k) ≡ true → AreKnown (keyword_applications rules run names indexes a k m v)
    applied_known names indexes refers h =
        target_known k (option_and_then (target rules.schemas) (reference_at k a.schema))
        (referred_known (target rules.schemas) (reference_at k a.schema) (target_held rules.schemas closed))
    applied_known names indexes refers_dynamically h =
        target_known k (option_and_then (dynamic_target rules.schemas a.scope) (reference_at k a.schema))
        (referred_known (dynamic_target rules.schemas a.scope) (reference_at k a.schema) (dynamic_target_held rules.schemas closed a.scope))
    applied_known names indexes all_of h =
        mapped_known (λ e. in_place a (k ∷ decimal e.0 ∷ []) e.1) (enumerate_from 0 (elements v)) (λ e j. listed_known h e j whole a.instance)
    applied_known names indexes any_of h =
        mapped_known (λ e. in_place a (k ∷ decimal e.0 ∷ []) e.1) (enumerate_from 0 (elements v)) (λ e j. listed_known h e j whole a.instance)
    applied_known names indexes one_of h =
        mapped_known (λ e. in_place a (k ∷ decimal e.0 ∷ []) e.1) (enumerate_from 0 (elements v)) (λ e j. listed_known h e j whole a.instance)
    applied_known names indexes negation h = alone_known (in_place a (k ∷ []) v) (one_known h whole a.instance)
    applied_known names indexes condition h = alone_known (in_place a (k ∷ []) v) (one_known h whole a.instance)
    applied_known names indexes (consequence wanted) h = consequence_known h wanted (condition_outcome run a)
    applied_known names indexes dependent_schemas h =
        mapped_known (λ m. in_place a (k ∷ m.0 ∷ []) m.1) (filter (λ m. is_some (get m.0 a.instance)) (members v))
        (λ m j. named_known h m (from_filter _ (members v) m j) whole a.instance)
    applied_known names indexes prefix_items h =
        mapped_known (λ e. at_part a (k ∷ decimal (e.0).0 ∷ []) (e.0).1 (indexed (e.0).0) e.1) (zip (enumerate_from 0 (elements v)) (elements a.instance))
        (λ e j. listed_known h e.0 (zipped_first (enumerate_from 0 (elements v)) (elements a.instance) e j) (indexed (e.0).0) e.1)
    applied_known names indexes items h =
        let start = length (elements (beside a (codes "prefixItems"))) in
        mapped_known (λ e. at_part a (k ∷ []) v (indexed e.0) e.1) (enumerate_from start (drop start (elements a.instance))) (λ e j. one_known h (indexed e.0) e.1)
    applied_known names indexes contains h =
        mapped_known (λ e. at_part a (k ∷ []) v (indexed e.0) e.1) (enumerate_from 0 (elements a.instance)) (λ e j. one_known h (indexed e.0) e.1)
    applied_known names indexes properties h =
        flattened_known (λ m. at_present a k m (get m.0 a.instance)) (members v) (λ m j. present_known h m j (get m.0 a.instance))
    applied_known names indexes pattern_properties h =
        flattened_known (λ m. map (λ p. at_part a (k ∷ p.0 ∷ []) p.1 (named m.0) m.1) (filter (λ p. rules.matches p.0 m.0) (members v))) (members a.instance)
        (λ m j. mapped_known (λ p. at_part a (k ∷ p.0 ∷ []) p.1 (named m.0) m.1) (filter (λ p. rules.matches p.0 m.0) (members v))
        (λ p l. named_known h p (from_filter _ (members v) p l) (named m.0) m.1))
    applied_known names indexes additional_properties h =
        mapped_known (λ m. at_part a (k ∷ []) v (named m.0) m.1) (filter (λ m. not (is_taken rules a m.0)) (members a.instance)) (λ m j. one_known h (named m.0) m.1)
    applied_known names indexes property_names h =
        mapped_known (λ m. at_part a (k ∷ []) v (name_of m.0) (string m.0)) (members a.instance) (λ m j. one_known h (name_of m.0) (string m.0))
    applied_known names indexes unevaluated_items h =
        mapped_known (λ e. at_part a (k ∷ []) v (indexed e.0) e.1) (filter (λ e. not (list_any (λ i. i == e.0) indexes)) (enumerate_from 0 (elements a.instance))) (λ e j. one_known h (indexed e.0) e.1)
    applied_known names indexes unevaluated_properties h =
        mapped_known (λ m. at_part a (k ∷ []) v (named m.0) m.1) (filter (λ m. not (has m.0 names)) (members a.instance)) (λ m j. one_known h (named m.0) m.1)
    applied_known names indexes _ h = none_known

-- ---- a keyword of the table fits its shape
rows_fit : list_all (λ k. fits k.meaning k.name (shape_in keywords k.name)) keywords ≡ true
rows_fit = refl

pub applied_schemas_are_known : AppliedSchemasAreKnown
applied_schemas_are_known rules ds same run names indexes a k v e row inside found applies =
    let closed : IsClosed rules.schemas = subst IsClosed (sym same) (table_closed ds) in
    let here : IsIn a.schema rules.schemas = subst (λ table. IsIn a.schema table) (sym same) (in_from_contains (table_of ds) a.schema inside) in
    let shape : fits k.meaning k.name (shape_in keywords k.name) ≡ true = all_pass_in (λ r. fits r.meaning r.name (shape_in keywords r.name)) keywords k rows_fit (in_from_contains keywords k row) in
    let known : IsIn e.1.schema rules.schemas =
    applied_known rules closed run a here k.name v (get_in k.name a.schema.value v found) names indexes k.meaning shape e
    (in_from_contains (keyword_applications rules run names indexes a k.name k.meaning v) e applies) in
    contains_from_in (table_of ds) e.1.schema (subst (λ table. IsIn e.1.schema table) same known)
