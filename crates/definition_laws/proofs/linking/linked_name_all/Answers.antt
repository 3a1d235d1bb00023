use Rattle.definition_laws.proofs.LeastTexts.{linked_name_all}
use Rattle.definition_laws.proofs.linking.linked_name_all.Goals as goal

pub returns : goal.returns
returns c = linked_name_all
