-- References that were followed, and what they name.
use Rattle.std.specs.Prelude.{◌≡◌, ℕ, Contains, IfSome, List, Option, Some, option_map}
use Rattle.std.specs.BTreeMap.{BTreeMap, values}
use Rattle.std.specs.List.{All}
use Rattle.definitions.specs.Resolution.{target_uri}
use Rattle.definitions.specs.Schemas.{Schema}
use Rattle.definitions.specs.Targets.{target, dynamic_target}
use Rattle.definitions.specs.Values.{Text}
use Rattle.linker.specs.DynamicTargets.{target_by_anchor}
use Rattle.linker.specs.LinkedDocuments.{linked_schemas}
use Rattle.linker.specs.ReferenceNumbers.{reference_pair}
use Rattle.linker.specs.declared.linked.Linked.{Linked}
use Rattle.schema_scan.specs.ReferenceTexts.{HasReference}
use Rattle.json_doc.specs.Docs.{value}
use Rattle.applicators.specs.Origins.{schema_at_origin}
use Rattle.keyword_plans.specs.LinkedResources.{HasAnchor}
use Rattle.keyword_plans.specs.declared.target.Target.{Target}
use Rattle.keyword_plans.specs.declared.followed_references.Followed.{Followed}
use Rattle.keyword_plans.specs.declared.followed_references.FollowedReference.{FollowedReference}

-- the schema that a reference names
abbrev pub target_view : Target → Schema
target_view t = schema_at_origin t.origin.value (value t.schema.now)

-- what a dynamic reference names in the scope
abbrev pub followed_in_scope : List Schema → List Text → Followed → Schema
followed_in_scope table scope f = target_by_anchor table scope (option_map (λ a. a.now) f.anchor) (target_view f.target)

-- it is what the reference names, as it stands and in each dynamic scope
abbrev pub IsNamed : List Schema → Text → Option Followed → Type 0
IsNamed table text n =
    (option_map (λ f. target_view f.target) n ≡ target table text) × ((scope : List Text) → option_map (followed_in_scope table scope) n ≡ dynamic_target table scope text)

-- the dynamic anchor by which it names the schema is one of the documents'
abbrev pub HasFollowedAnchor : Linked → Option Followed → Type 0
HasFollowedAnchor l n = IfSome n (λ f. IfSome f.anchor (λ a. HasAnchor l a.now))

-- what is kept of the reference is what it names in these documents
pub record IsFollowed (l : Linked) (f : FollowedReference) : Type 0 where
  pub named : (resource text : Text) → reference_pair l f.number ≡ Some (resource, text) → IsNamed (linked_schemas l) (target_uri resource text) f.named
  pub anchored : HasFollowedAnchor l f.named

-- all are that are kept in a map
abbrev pub AreFollowed : Linked → BTreeMap (ℕ × ℕ × ℕ) FollowedReference → Type 0
AreFollowed l kept = All (IsFollowed l) (values kept)

-- this schema of the documents stands in the resource of this URI, and has the reference
pub record Refers (l : Linked) (s : Schema) (uri text : Text) : Type 0 where
  pub inside : Contains (linked_schemas l) s
  pub resource : s.resource ≡ uri
  pub has : HasReference s text
