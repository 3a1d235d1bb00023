-- What each keyword of a schema object applies, and to which part of the instance (JSON Schema 2020-12 Core, 7.1, 10 and 11).
use Rattle.std.specs.Prelude.{ℕ, List, [], ◌∷◌, ◌++◌, Bool, true, false, ◌||◌, not, if◌then◌else◌, Option, Some, None, ◌==◌, length, option_and_then, option_map, unwrap_or, codes, map, flat_map, filter, decimal, is_some, drop, zip}
use Rattle.std.specs.List.{list_any, enumerate_from}
use Rattle.definitions.specs.Values.{Text, Value, null, string, same_text, get, elements, members}
use Rattle.definitions.specs.Pointers.{Pointer}
use Rattle.definitions.specs.Keywords.{Keyword, Meaning, refers, refers_dynamically, all_of, any_of, one_of, negation, condition, consequence, dependent_schemas, prefix_items, items, contains, properties, pattern_properties, additional_properties, property_names, unevaluated_items, unevaluated_properties}
use Rattle.definitions.specs.Schemas.{Schema, Identity, identity, below, reference_at}
use Rattle.definitions.specs.Targets.{target, dynamic_target}

-- where an instance stands: a pointer to it and, under `propertyNames`, the name
pub record InstanceLocation : Type 0 where
  pub pointer : Pointer
  pub name : Option Text

-- one schema at one instance location: how it was reached, in which dynamic scope, and which schema objects are being applied
pub record Application : Type 0 where
  pub schema : Schema
  pub instance : Value
  pub instance_location : InstanceLocation
  pub path : Pointer
  pub scope : List Text
  pub running : List (Identity × InstanceLocation)

-- a unit of the basic output (12.4.2)
pub record OutputUnit : Type 0 where
  -- along the evaluation path, and from the resource's root
  pub path : Pointer
  pub resource : Text
  pub pointer : Pointer
  pub instance_location : Pointer
  pub says : Value

pub record Outcome : Type 0 where
  pub valid : Bool
  pub names : List Text
  pub indexes : List ℕ
  pub errors : List OutputUnit
  pub annotations : List OutputUnit
  pub count : ℕ
  pub looped : Bool
  pub deep : Bool

-- which part of the instance a subschema is applied to
pub data Part : Type 0 where
  whole : Part
  named : Text → Part
  indexed : ℕ → Part
  name_of : Text → Part

-- the keywords in the order of evaluation, the schemas that a reference may name, and whether a pattern matches a text
pub record Rules : Type 0 where
  pub keywords : List Keyword
  pub schemas : List Schema
  pub matches : Text → Text → Bool

-- ---- what a keyword applies: subschemas to parts of the instance
abbrev pub part_location : InstanceLocation → Part → InstanceLocation
part_location p whole = p
part_location p (named n) = record p { pointer = p.pointer ++ n ∷ [] }
part_location p (indexed i) = record p { pointer = p.pointer ++ decimal i ∷ [] }
part_location p (name_of n) = record p { name = Some n }

abbrev pub part_application : Application → Pointer → Schema → Part → Value → Application
part_application a way s part x = record a { schema = s; path = a.path ++ way; instance_location = part_location a.instance_location part; instance = x }

-- the schema v, which stands that way below the keyword's object, at a part of the instance
abbrev pub at_part : Application → Pointer → Value → Part → Value → Part × Application
at_part a way v part x = (part, part_application a way (below a.schema way v) part x)

abbrev pub in_place : Application → Pointer → Value → Part × Application
in_place a way v = at_part a way v whole a.instance

abbrev pub to_target : Application → Text → Option Schema → List (Part × Application)
to_target a keyword None = []
to_target a keyword (Some s) = (whole, part_application a (keyword ∷ []) s whole a.instance) ∷ []

abbrev pub list_applications : Application → Text → Value → List (Part × Application)
list_applications a keyword v = map (λ e. in_place a (keyword ∷ decimal e.0 ∷ []) e.1) (enumerate_from 0 (elements v))

-- one schema at each of these elements, numbered from i
abbrev pub at_items : Application → Text → Value → ℕ → List Value → List (Part × Application)
at_items a keyword v i xs = map (λ e. at_part a (keyword ∷ []) v (indexed e.0) e.1) (enumerate_from i xs)

-- one schema at each of these members
abbrev pub at_members : Application → Text → Value → List (Text × Value) → List (Part × Application)
at_members a keyword v ms = map (λ m. at_part a (keyword ∷ []) v (named m.0) m.1) ms

abbrev pub has : Text → List Text → Bool
has name names = list_any (same_text name) names

-- the value of a keyword beside this one
abbrev pub beside : Application → Text → Value
beside a keyword = unwrap_or (get keyword a.schema.value) null

-- 10.2.2.1: the condition's outcome decides which of the two is applied
abbrev pub consequence_of : Application → Text → Bool → Value → Option Outcome → List (Part × Application)
consequence_of a keyword wanted v None = []
consequence_of a keyword true v (Some o) = if o.valid then in_place a (keyword ∷ []) v ∷ [] else []
consequence_of a keyword false v (Some o) = if o.valid then [] else in_place a (keyword ∷ []) v ∷ []

abbrev pub at_present : Application → Text → Text × Value → Option Value → List (Part × Application)
at_present a keyword m None = []
at_present a keyword m (Some x) = at_part a (keyword ∷ m.0 ∷ []) m.1 (named m.0) x ∷ []

-- the scope and the schemas running, for what this object applies
abbrev pub application_within : Application → Application
application_within a = record a { scope = a.scope ++ a.schema.resource ∷ []; running = a.running ++ (identity a.schema, a.instance_location) ∷ [] }

-- the outcomes of `if`, and of `contains`
abbrev pub condition_outcome : (Application → Outcome) → Application → Option Outcome
condition_outcome run a = option_map (λ v. run (in_place a (codes "if" ∷ []) v).1) (get (codes "if") a.schema.value)

abbrev pub contains_outcomes : (Application → Outcome) → Application → Option (List Outcome)
contains_outcomes run a =
    option_map (λ v. map (λ e. run e.1) (at_items a (codes "contains") v 0 (elements a.instance))) (get (codes "contains") a.schema.value)

-- 10.3.2.3: what neither `properties` nor `patternProperties` beside took
abbrev pub is_taken : Rules → Application → Text → Bool
is_taken rules a name =
    is_some (get name (beside a (codes "properties")))
    || list_any (λ p. rules.matches p.0 name) (members (beside a (codes "patternProperties")))

-- run gives the outcome of an application; names and indexes are those that all keywords but the unevaluated ones evaluated
abbrev pub keyword_applications : Rules → (Application → Outcome) → List Text → List ℕ → Application → Text → Meaning → Value → List (Part × Application)
keyword_applications rules run names indexes a k refers v = to_target a k (option_and_then (target rules.schemas) (reference_at k a.schema))
keyword_applications rules run names indexes a k refers_dynamically v = to_target a k (option_and_then (dynamic_target rules.schemas a.scope) (reference_at k a.schema))
keyword_applications rules run names indexes a k all_of v = list_applications a k v
keyword_applications rules run names indexes a k any_of v = list_applications a k v
keyword_applications rules run names indexes a k one_of v = list_applications a k v
keyword_applications rules run names indexes a k negation v = in_place a (k ∷ []) v ∷ []
keyword_applications rules run names indexes a k condition v = in_place a (k ∷ []) v ∷ []
keyword_applications rules run names indexes a k (consequence wanted) v = consequence_of a k wanted v (condition_outcome run a)
keyword_applications rules run names indexes a k dependent_schemas v =
    map (λ m. in_place a (k ∷ m.0 ∷ []) m.1) (filter (λ m. is_some (get m.0 a.instance)) (members v))
keyword_applications rules run names indexes a k prefix_items v =
    map (λ e. at_part a (k ∷ decimal (e.0).0 ∷ []) (e.0).1 (indexed (e.0).0) e.1) (zip (enumerate_from 0 (elements v)) (elements a.instance))
keyword_applications rules run names indexes a k items v =
    let start = length (elements (beside a (codes "prefixItems"))) in at_items a k v start (drop start (elements a.instance))
keyword_applications rules run names indexes a k contains v = at_items a k v 0 (elements a.instance)
keyword_applications rules run names indexes a k properties v = flat_map (λ m. at_present a k m (get m.0 a.instance)) (members v)
keyword_applications rules run names indexes a k pattern_properties v =
    flat_map (λ m. map (λ p. at_part a (k ∷ p.0 ∷ []) p.1 (named m.0) m.1) (filter (λ p. rules.matches p.0 m.0) (members v))) (members a.instance)
keyword_applications rules run names indexes a k additional_properties v = at_members a k v (filter (λ m. not (is_taken rules a m.0)) (members a.instance))
keyword_applications rules run names indexes a k property_names v = map (λ m. at_part a (k ∷ []) v (name_of m.0) (string m.0)) (members a.instance)
keyword_applications rules run names indexes a k unevaluated_items v =
    map (λ e. at_part a (k ∷ []) v (indexed e.0) e.1) (filter (λ e. not (list_any (λ i. i == e.0) indexes)) (enumerate_from 0 (elements a.instance)))
keyword_applications rules run names indexes a k unevaluated_properties v = at_members a k v (filter (λ m. not (has m.0 names)) (members a.instance))
keyword_applications rules run names indexes a k _ v = []
