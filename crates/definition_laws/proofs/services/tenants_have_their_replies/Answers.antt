use Rattle.definition_laws.proofs.TenantCourses.{own_replies}
use Rattle.definition_laws.proofs.services.tenants_have_their_replies.Goals as goal

pub returns : goal.returns
returns c = own_replies
