use Rattle.definition_laws.proofs.Resources.{reached_distinct}
use Rattle.definition_laws.proofs.reaching.reached_resources_are_distinct.Goals as goal

pub returns : goal.returns
returns c = reached_distinct
