use Rattle.definition_laws.proofs.DistinctDocuments.{kept_distinct_schemas}
use Rattle.definition_laws.proofs.distinctness.kept_documents_are_distinct.Goals as goal

pub returns : goal.returns
returns c = kept_distinct_schemas
