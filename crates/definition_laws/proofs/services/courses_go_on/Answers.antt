use Rattle.definition_laws.proofs.TenantCourses.{go_on}
use Rattle.definition_laws.proofs.services.courses_go_on.Goals as goal

pub returns : goal.returns
returns c = go_on
