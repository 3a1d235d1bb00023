use Rattle.definition_laws.proofs.TenantCourses.{others_stay}
use Rattle.definition_laws.proofs.services.other_registries_stay.Goals as goal

pub returns : goal.returns
returns c = others_stay
