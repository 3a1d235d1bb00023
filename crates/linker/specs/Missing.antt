-- References of one document that have no target.
use Rattle.std.specs.Prelude.{List, filter, is_none}
use Rattle.definitions.specs.Values.{Text}
use Rattle.definitions.specs.Schemas.{Document, table_of}
use Rattle.definitions.specs.Targets.{target}
use Rattle.definitions.specs.Reach.{references_in}

-- in none of these
unfoldable pub missing_in : List Document → Document → List Text
missing_in ds d = filter (λ r. is_none (target (table_of ds) r)) (references_in d)
