use Rattle.definition_laws.proofs.DistinctDocuments.{reached_distinct_schemas}
use Rattle.definition_laws.proofs.distinctness.reached_documents_are_distinct.Goals as goal

pub returns : goal.returns
returns c = reached_distinct_schemas
