-- What dynamic references name, by dynamic anchors (JSON Schema 2020-12 Core, 8.2.3.2).
use Rattle.std.specs.Prelude.{◌≡◌, List, Bool, Option, Some, None, IfSome, is_some, option_map, true}
use Rattle.std.specs.List.{list_any}
use Rattle.definitions.specs.Values.{Text}
use Rattle.definitions.specs.Schemas.{Schema}
use Rattle.definitions.specs.Targets.{dynamic_target, is_dynamic_anchor, outermost, schema_with_dynamic_anchor, target}
use Rattle.schema_scan.specs.Locateds.{located_view}
use Rattle.linker.specs.declared.named.Named.{Named}

-- whether the resource with this URI has this dynamic anchor
abbrev pub is_anchored : List Schema → Text → Text → Bool
is_anchored table name uri = is_some (schema_with_dynamic_anchor table uri name)

-- what is named in the scope, where this schema is named first, by its dynamic anchor or not
abbrev pub target_by_anchor : List Schema → List Text → Option Text → Schema → Schema
target_by_anchor table scope None first = first
target_by_anchor table scope (Some name) first = outermost table scope name first

-- the schema that the reference names first
abbrev pub first_target : Named → Schema
first_target n = located_view n.target

-- and the one that it names in the scope, where it is dynamic
abbrev pub target_in_scope : List Schema → List Text → Named → Schema
target_in_scope table scope n = target_by_anchor table scope (option_map (λ a. a.now) n.anchor) (located_view n.target)

-- whether one of the schemas has this dynamic anchor
abbrev pub has_anchor : List Schema → Text → Bool
has_anchor table name = list_any (is_dynamic_anchor name) table

-- one of the schemas has the anchor by which it names that schema
abbrev pub HasItsAnchor : List Schema → Named → Type 0
HasItsAnchor table n = IfSome n.anchor (λ a. has_anchor table a.now ≡ true)

-- it is what the reference with this text names, as it stands and in each dynamic scope, and it has its anchor
pub record IsNamedBy (table : List Schema) (text : Text) (n : Option Named) : Type 0 where
  pub first : option_map first_target n ≡ target table text
  pub dynamic : (scope : List Text) → option_map (target_in_scope table scope) n ≡ dynamic_target table scope text
  pub anchored : IfSome n (HasItsAnchor table)
