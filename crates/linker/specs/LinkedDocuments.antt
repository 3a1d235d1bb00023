-- What linked documents mean: the URI that was linked, and the documents that it reaches.
use Rattle.std.specs.Prelude.{List, string_bytes}
use Rattle.definitions.specs.Values.{Text}
use Rattle.definitions.specs.Schemas.{Schema, Document, table_of}
use Rattle.linker.specs.SharedDocuments.{shared_documents}
use Rattle.linker.specs.declared.linked.Linked.{Linked}

unfoldable pub linked_uri : Linked → Text
linked_uri l = string_bytes l.uri

unfoldable pub linked_documents : Linked → List Document
linked_documents l = shared_documents l.documents.items

-- the schemas of all of them
abbrev pub linked_schemas : Linked → List Schema
linked_schemas l = table_of (linked_documents l)
