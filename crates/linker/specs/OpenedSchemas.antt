-- Schemas that open resources (JSON Schema 2020-12 Core, 8.2.1).
use Rattle.std.specs.Prelude.{◌≡◌, [], Contains, Some, codes}
use Rattle.definitions.specs.Resolution.{target_uri}
use Rattle.definitions.specs.Schemas.{Schema}
use Rattle.definitions.specs.Uris.{without_fragment}
use Rattle.definitions.specs.Values.{Text, text_at}
use Rattle.linker.specs.LinkedDocuments.{linked_schemas}
use Rattle.linker.specs.declared.linked.Linked.{Linked}

-- this schema of the documents opens its resource by the `$id`, where the resource around it has the URI
pub record Opens (l : Linked) (s : Schema) (around id : Text) : Type 0 where
  pub inside : Contains (linked_schemas l) s
  pub root : s.pointer ≡ []
  pub resource : s.resource ≡ without_fragment (target_uri around id)
  pub has : text_at (codes "$id") s.value ≡ Some id
