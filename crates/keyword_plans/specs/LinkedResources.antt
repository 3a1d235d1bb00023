-- The resources of linked documents, and their dynamic anchors.
use Rattle.std.specs.Prelude.{◌≡◌, ℕ, Contains, IfSome, List, Option, Some, slice_get, true}
use Rattle.definitions.specs.Schemas.{Schema}
use Rattle.definitions.specs.Values.{Text}
use Rattle.linker.specs.DynamicTargets.{has_anchor}
use Rattle.linker.specs.LinkedDocuments.{linked_schemas}
use Rattle.linker.specs.declared.linked.Linked.{Linked}

-- one of their resources has this URI
abbrev pub HasResource : Linked → Text → Type 0
HasResource l uri = (s : Schema) × Contains (linked_schemas l) s × (s.resource ≡ uri)

-- each of these is the URI of one of their resources
abbrev pub HasResources : Linked → List Text → Type 0
HasResources l uris = (uri : Text) → Contains uris uri → HasResource l uri

-- one of their schemas has this dynamic anchor
abbrev pub HasAnchor : Linked → Text → Type 0
HasAnchor l name = has_anchor (linked_schemas l) name ≡ true

-- the text has this number among the texts, where it has one
abbrev pub HasNumber : List Text → Text → Option ℕ → Type 0
HasNumber texts text number = IfSome number (λ n. slice_get texts n ≡ Some text)
