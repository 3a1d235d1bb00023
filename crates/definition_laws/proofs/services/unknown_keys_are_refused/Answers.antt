use Rattle.definition_laws.proofs.TenantCourses.{unknown_refused}
use Rattle.definition_laws.proofs.services.unknown_keys_are_refused.Goals as goal

pub returns : goal.returns
returns c = unknown_refused
