-- What a stored document means: the document whose value its key's text spells.
use Rattle.definitions.specs.Schemas.{Document, document_from}
use Rattle.shared_cache.specs.Readings.{read_value}
use Rattle.stored_documents.specs.declared.stored.Stored.{Stored}

abbrev pub stored_view : Stored → Document
stored_view s = document_from s.key.value.0 (read_value s.key.value.1)
