use Rattle.definition_laws.proofs.TenantCourses.{own_course}
use Rattle.definition_laws.proofs.services.tenants_have_their_courses.Goals as goal

pub returns : goal.returns
returns c = own_course
