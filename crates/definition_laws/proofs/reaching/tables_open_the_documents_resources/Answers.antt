use Rattle.definition_laws.proofs.Resources.{table_uris}
use Rattle.definition_laws.proofs.reaching.tables_open_the_documents_resources.Goals as goal

pub returns : goal.returns
returns c = table_uris
