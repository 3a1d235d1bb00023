-- What contracts see of texts of linked documents that have numbers.
use Rattle.std.specs.Prelude.{◌≡◌, ◌++◌, ℕ, [], Contains, List, Some, true, codes, map, slice_get, string_bytes}
use Rattle.std.specs.BTreeMap.{keys}
use Rattle.std.specs.List.{flat_map}
use Rattle.definitions.specs.Schemas.{Schema}
use Rattle.definitions.specs.Values.{Text, text_at}
use Rattle.text_numbers.specs.TextNumbers.{text_number}
use Rattle.linker.specs.DocumentTexts.{identifying_texts}
use Rattle.linker.specs.DynamicTargets.{has_anchor}
use Rattle.linker.specs.LinkedDocuments.{linked_schemas}
use Rattle.linker.specs.declared.linked.Linked.{Linked}
use Rattle.linker.specs.declared.linked_texts.LinkedTexts.{LinkedTexts}

-- in the order of their numbers
unfoldable pub numbered_texts : LinkedTexts → List Text
numbered_texts t = map (λ text. text.now) t.texts.items

-- the number that is told of a text
unfoldable pub number_of_text : LinkedTexts → Text → ℕ
number_of_text t text = text_number t.numbers text

-- that is its own
abbrev pub IsNumberedText : LinkedTexts → Text → Type 0
IsNumberedText t text = slice_get (numbered_texts t) (number_of_text t text) ≡ Some text

-- the URIs of the documents' resources and the `$id`s of their roots, document by document, and the names of dynamic anchors
unfoldable pub texts_of_linked : Linked → List Text
texts_of_linked l = flat_map identifying_texts l.documents.items ++ map string_bytes (keys l.dynamic_resources)

-- the URI of each resource of the documents, the `$id` of each resource's root and each dynamic anchor are told their own
-- numbers
pub record AreNumberedTexts (l : Linked) (t : LinkedTexts) : Type 0 where
  pub all : numbered_texts t ≡ texts_of_linked l
  pub resources : (s : Schema) → Contains (linked_schemas l) s → IsNumberedText t s.resource
  pub identifiers : (s : Schema) (id : Text) → Contains (linked_schemas l) s → s.pointer ≡ [] → text_at (codes "$id") s.value ≡ Some id → IsNumberedText t id
  pub anchors : (name : Text) → has_anchor (linked_schemas l) name ≡ true → IsNumberedText t name
