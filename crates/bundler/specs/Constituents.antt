-- Documents that a bundle is made of.
use Rattle.std.specs.Prelude.{[]}
use Rattle.definitions.specs.Values.{Text, Value}
use Rattle.definitions.specs.Schemas.{Document}
use Rattle.json_doc.specs.Docs.{value}
use Rattle.bundler.specs.declared.constituent.Constituent.{Constituent}

-- nothing but its canonical URI and its value goes into a bundle
abbrev pub named_document : Text → Value → Document
named_document uri v = record { canonical = uri; base = []; value = v }

abbrev pub bare_document : Document → Document
bare_document d = named_document d.canonical d.value

abbrev pub constituent_view : Constituent → Document
constituent_view c = named_document c.uri.now (value c.value.now)
