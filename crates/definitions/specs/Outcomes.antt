-- What a schema says of an instance (JSON Schema 2020-12 Core, 7.1, 10, 11 and 12.4.2).
use Rattle.std.specs.Prelude.{ℕ, suc, zero, List, [], ◌∷◌, ◌++◌, Bool, true, false, not, ◌&&◌, if◌then◌else◌, Option, Some, None, codes, map, flat_map, filter, sum_by}
use Rattle.std.specs.List.{list_all, list_any}
use Rattle.definitions.specs.Values.{Text, Value, boolean, string, same_text, get, members, is_object}
use Rattle.definitions.specs.Pointers.{same_pointer}
use Rattle.definitions.specs.Keywords.{Keyword, Meaning, looks_at_evaluated}
use Rattle.definitions.specs.Schemas.{identity, same_identity}
use Rattle.definitions.specs.Applied.{Application, OutputUnit, Outcome, Part, InstanceLocation, Rules, application_within, keyword_applications}
use Rattle.definitions.specs.Evaluated.{outcomes_that_pass, outcomes_that_fail, keyword_passes, evaluated_names, evaluated_indexes, annotation_of, may_annotate, is_annotation}

-- what a schema object does with one of its keywords
pub record Use : Type 0 where
  pub keyword : Text
  pub passes : Bool
  pub outcomes : List (Part × Outcome)
  pub names : List Text
  pub indexes : List ℕ
  pub annotation : Option Value
  -- whether what it applies may annotate
  pub annotates : Bool

-- ---- units
abbrev pub unit : Application → Text → Value → OutputUnit
unit a keyword says = record {
  path = a.path ++ keyword ∷ [];
  resource = a.schema.resource;
  pointer = a.schema.pointer ++ keyword ∷ [];
  instance_location = a.instance_location.pointer;
  says = says;
}

abbrev pub own_annotation : Application → Use → Option Value → List OutputUnit
own_annotation a u None = []
own_annotation a u (Some v) = unit a u.keyword v ∷ []

abbrev pub use_annotations : Application → Use → List OutputUnit
use_annotations a u = own_annotation a u u.annotation ++ (if u.annotates then flat_map (λ o. o.1.annotations) (outcomes_that_pass u.outcomes) else [])

abbrev pub other_annotations : Application → List OutputUnit
other_annotations a =
    map (λ m. unit a m.0 m.1) (filter (λ m. is_annotation a.schema.value a.instance m.0) (members a.schema.value))

abbrev pub use_errors : Application → Use → List OutputUnit
use_errors a u =
    if u.passes then [] else unit a u.keyword (string (u.keyword ++ codes " is not met")) ∷ flat_map (λ o. o.1.errors) (outcomes_that_fail u.outcomes)

-- ---- the whole of an object
abbrev pub outcome_of_uses : Application → List Use → Outcome
outcome_of_uses a us =
    let valid = list_all (λ u. u.passes) us in
    record {
      valid = valid;
      names = (if valid then flat_map (λ u. u.names) us else []);
      indexes = (if valid then flat_map (λ u. u.indexes) us else []);
      errors = (if valid then [] else flat_map (use_errors a) us);
      annotations = (if valid then flat_map (use_annotations a) us ++ other_annotations a else []);
      count = suc (sum_by (λ u. sum_by (λ o. o.1.count) u.outcomes) us);
      looped = list_any (λ u. list_any (λ o. o.1.looped) u.outcomes) us;
      deep = list_any (λ u. list_any (λ o. o.1.deep) u.outcomes) us;
    }

module _ (rules : Rules) (run : Application → Outcome) where
  abbrev pub use_of : Application → Text → Meaning → Value → List (Part × Outcome) → Use
  use_of a keyword meaning v os = record {
    keyword = keyword;
    passes = keyword_passes rules run a keyword meaning v os;
    outcomes = os;
    names = evaluated_names meaning os;
    indexes = evaluated_indexes meaning os;
    annotation = annotation_of a meaning os;
    annotates = may_annotate meaning;
  }

  abbrev pub uses_by_keyword : List Text → List ℕ → Application → Keyword → Option Value → List Use
  uses_by_keyword names indexes a k None = []
  uses_by_keyword names indexes a k (Some v) =
      use_of a k.name k.meaning v (map (λ e. (e.0, run e.1)) (keyword_applications rules run names indexes a k.name k.meaning v)) ∷ []

  -- each keyword of these that the object has
  abbrev pub uses_of : List Keyword → List Text → List ℕ → Application → List Use
  uses_of rows names indexes a = flat_map (λ k. uses_by_keyword names indexes a k (get k.name a.schema.value)) rows

  -- the unevaluated keywords come last
  unfoldable pub object_outcome : Application → Outcome
  object_outcome a =
      let here = application_within a in
      let us = uses_of (filter (λ k. not (looks_at_evaluated k.meaning)) rules.keywords) [] [] here in
      let evaluated_by = filter (λ k. looks_at_evaluated k.meaning) rules.keywords in
      outcome_of_uses a (us ++ uses_of evaluated_by (flat_map (λ u. u.names) us) (flat_map (λ u. u.indexes) us) here)

-- ---- boolean schemas, and leaves
abbrev pub leaf : Bool → Bool → Outcome
leaf looped deep = record { valid = false; names = []; indexes = []; errors = []; annotations = []; count = 1; looped = looped; deep = deep }

abbrev pub false_unit : Application → OutputUnit
false_unit a = record {
  path = a.path;
  resource = a.schema.resource;
  pointer = a.schema.pointer;
  instance_location = a.instance_location.pointer;
  says = string (codes "no value is allowed");
}

abbrev pub boolean_outcome : Application → Bool → Outcome
boolean_outcome a b = record (leaf false false) { valid = b; errors = (if b then [] else false_unit a ∷ []) }

abbrev pub same_name : Option Text → Option Text → Bool
same_name None None = true
same_name (Some s) (Some t) = same_text s t
same_name _ _ = false

abbrev pub same_location : InstanceLocation → InstanceLocation → Bool
same_location p q = same_pointer p.pointer q.pointer && same_name p.name q.name

-- the schema is an object, and is already being applied at the same instance location
abbrev pub is_running : Application → Bool
is_running a =
    is_object a.schema.value
    && list_any (λ e. same_identity e.0 (identity a.schema) && same_location e.1 a.instance_location) a.running

abbrev pub schema_outcome : Rules → (Application → Outcome) → Application → Value → Outcome
schema_outcome rules run a (boolean b) = boolean_outcome a b
schema_outcome rules run a _ = object_outcome rules run a

-- with so many applications nested at most
unfoldable pub outcome : Rules → ℕ → Application → Outcome
outcome rules zero a = if is_running a then leaf true false else leaf false true
outcome rules (suc n) a =
    if is_running a then leaf true false else schema_outcome rules (outcome rules n) a a.schema.value
