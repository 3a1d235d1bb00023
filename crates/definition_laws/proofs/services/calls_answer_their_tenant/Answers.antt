use Rattle.definition_laws.proofs.TenantCourses.{answered}
use Rattle.definition_laws.proofs.services.calls_answer_their_tenant.Goals as goal

pub returns : goal.returns
returns c = answered
