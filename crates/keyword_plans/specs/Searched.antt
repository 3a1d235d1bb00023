-- How far a dynamic scope was searched for a dynamic anchor.
use Rattle.std.specs.Prelude.{◌≡◌, ◌≤◌, ◌<◌, ℕ, [], List, Option, Some, false, length, option_map, slice_index_or}
use Rattle.std.specs.Option.{ForSome}
use Rattle.definitions.specs.Schemas.{Schema}
use Rattle.definitions.specs.Targets.{schema_with_dynamic_anchor}
use Rattle.definitions.specs.Values.{Text}
use Rattle.linker.specs.DynamicTargets.{is_anchored}
use Rattle.linker.specs.LinkedDocuments.{linked_schemas}
use Rattle.linker.specs.NumberedTexts.{texts_of_linked}
use Rattle.linker.specs.declared.linked.Linked.{Linked}
use Rattle.keyword_plans.specs.Followed.{target_view}
use Rattle.keyword_plans.specs.LinkedResources.{HasAnchor, HasNumber, HasResource}
use Rattle.keyword_plans.specs.declared.dynamic_scope.SearchedAnchor.{SearchedAnchor}

-- none of the first resources has the anchor, and what is found is the schema with the anchor in the next one: so it is with
-- those that are the documents'
pub record AreSearched (l : Linked) (uris : List Text) (name : Text) (passed : ℕ) (found : Option Schema) : Type 0 where
  pub within : passed ≤ length uris
  pub before : (i : ℕ) → i < passed → HasResource l (slice_index_or uris i []) → is_anchored (linked_schemas l) name (slice_index_or uris i []) ≡ false
  pub there : ForSome found (λ s. (passed < length uris)
      × (HasResource l (slice_index_or uris passed []) → schema_with_dynamic_anchor (linked_schemas l) (slice_index_or uris passed []) name ≡ Some s))

pub record IsSearched (l : Linked) (uris : List Text) (s : SearchedAnchor) : Type 0 where
  pub anchor : HasAnchor l s.name.now
  pub number : HasNumber (texts_of_linked l) s.name.now s.number
  pub searched : AreSearched l uris s.name.now s.passed (option_map target_view s.found)
