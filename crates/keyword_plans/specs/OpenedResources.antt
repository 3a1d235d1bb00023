-- What was asked of the resources of linked documents.
use Rattle.std.specs.Prelude.{◌≡◌, ℕ, Option, Some, IfSome, find, option_and_then, option_map, slice_get}
use Rattle.std.specs.BTreeMap.{BTreeMap, get}
use Rattle.std.specs.Borrow.{Bor}
use Rattle.std.specs.Ordering.{nat_cmp}
use Rattle.definitions.specs.Reach.{holds_resource}
use Rattle.definitions.specs.Schemas.{Schema}
use Rattle.definitions.specs.Targets.{schema_with_dynamic_anchor}
use Rattle.definitions.specs.Values.{Text}
use Rattle.linker.specs.LinkedDocuments.{linked_documents, linked_schemas}
use Rattle.linker.specs.NumberedTexts.{numbered_texts}
use Rattle.linker.specs.OpenedSchemas.{Opens}
use Rattle.linker.specs.declared.linked.Linked.{Linked}
use Rattle.linker.specs.declared.linked_texts.LinkedTexts.{LinkedTexts}
use Rattle.keyword_plans.specs.Followed.{target_view}
use Rattle.keyword_plans.specs.Held.{parts_cmp}
use Rattle.keyword_plans.specs.declared.target.Target.{Target}

-- where these numbers are those of a URI and of an `$id`, the schema that opens its resource so opens this one
abbrev pub IsOpened : Linked → LinkedTexts → ℕ × ℕ → Bor Text → Type 0
IsOpened l t numbers uri =
    (s : Schema) (around id : Text) → slice_get (numbered_texts t) numbers.0 ≡ Some around → slice_get (numbered_texts t) numbers.1 ≡ Some id → Opens l s around id
    → uri.now ≡ s.resource

-- so it is with all that are kept
abbrev pub AreOpened : Linked → LinkedTexts → BTreeMap (ℕ × ℕ) (Bor Text) → Type 0
AreOpened l t kept = (numbers : ℕ × ℕ) → IfSome (get parts_cmp kept numbers) (IsOpened l t numbers)

-- the document of this number is the one with the resource of this URI
abbrev pub IsDocument : Linked → Text → Option ℕ → Type 0
IsDocument l uri n = option_and_then (slice_get (linked_documents l)) n ≡ find (holds_resource uri) (linked_documents l)

-- what is kept under the number of a URI is the number of its document
abbrev pub AreDocuments : Linked → LinkedTexts → BTreeMap ℕ ℕ → Type 0
AreDocuments l t kept =
    (number : ℕ) → IfSome (get nat_cmp kept number) (λ document. (uri : Text) → slice_get (numbered_texts t) number ≡ Some uri → IsDocument l uri (Some document))

-- where these numbers are those of a URI and of a dynamic anchor, this is the schema with the anchor in the resource
abbrev pub IsAnchored : Linked → LinkedTexts → ℕ × ℕ → Option Target → Type 0
IsAnchored l t numbers found =
    (uri name : Text) → slice_get (numbered_texts t) numbers.0 ≡ Some uri → slice_get (numbered_texts t) numbers.1 ≡ Some name
    → option_map target_view found ≡ schema_with_dynamic_anchor (linked_schemas l) uri name

-- so it is with all that are kept of dynamic anchors
abbrev pub AreAnchored : Linked → LinkedTexts → BTreeMap (ℕ × ℕ) (Option Target) → Type 0
AreAnchored l t kept = (numbers : ℕ × ℕ) → IfSome (get parts_cmp kept numbers) (IsAnchored l t numbers)
