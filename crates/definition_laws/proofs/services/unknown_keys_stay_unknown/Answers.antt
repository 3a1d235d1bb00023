use Rattle.definition_laws.proofs.TenantCourses.{all_unknown}
use Rattle.definition_laws.proofs.services.unknown_keys_stay_unknown.Goals as goal

pub returns : goal.returns
returns c = all_unknown
