use Rattle.definition_laws.proofs.TenantCourses.{new_kept}
use Rattle.definition_laws.proofs.services.new_servers_are_kept.Goals as goal

pub returns : goal.returns
returns c = new_kept
