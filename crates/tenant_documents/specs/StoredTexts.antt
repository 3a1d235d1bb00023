-- The texts of a document that is stored.
use Rattle.std.specs.Prelude.{Option, option_map}
use Rattle.definitions.specs.Documents.{document_of}
use Rattle.definitions.specs.Registries.{Registry}
use Rattle.definitions.specs.Texts.{text}
use Rattle.definitions.specs.Values.{Text}

-- the base and the compact text of the document with this canonical URI
abbrev pub stored_texts : Registry → Text → Option (Text × Text)
stored_texts g uri = option_map (λ d. (d.base, text d.value)) (document_of g.documents uri)
