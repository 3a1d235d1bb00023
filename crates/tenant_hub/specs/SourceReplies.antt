-- What is replied by the documents of a source.
use Rattle.std.specs.Prelude.{List, Option, Some, None, Bool, false, Result, Ok, Err}
use Rattle.definitions.specs.Answers.{answer}
use Rattle.definitions.specs.Faults.{Fault}
use Rattle.definitions.specs.Patterns.{has_match, regular_search}
use Rattle.definitions.specs.Reach.{reach}
use Rattle.definitions.specs.Registries.{Reply, refused, validation, outcome_reply, bundling_reply}
use Rattle.definitions.specs.Schemas.{Document}
use Rattle.definitions.specs.Values.{Text, Value, same_text}
use Rattle.linker.specs.LinkedDocuments.{linked_uri, linked_documents}
use Rattle.linker.specs.declared.linked.Linked.{Linked}

-- to a validation, by the base form of its URI and the value of its body
unfoldable pub validation_over : List Document → Result Text Fault → Result Value Fault → Reply
validation_over ds (Ok b) (Ok x) = validation regular_search b x (reach ds b)
validation_over ds (Ok b) (Err f) = refused f
validation_over ds (Err f) x = refused f

-- to a validation of this value by what was linked
abbrev pub reply_by : Linked → Value → Reply
reply_by l x = outcome_reply (answer has_match (linked_documents l) (linked_uri l) x)

-- to a request for a bundle, by the base form of its URI
unfoldable pub bundle_over : List Document → Result Text Fault → Reply
bundle_over ds (Ok b) = bundling_reply b (reach ds b)
bundle_over ds (Err f) = refused f

-- of the document that holds a URI, where one does: whether this is its canonical URI
abbrev pub is_named : Text → Option Document → Bool
is_named uri None = false
is_named uri (Some d) = same_text uri d.canonical
