use Rattle.definition_laws.proofs.TenantCourses.{calls_kept}
use Rattle.definition_laws.proofs.services.calls_keep_registries.Goals as goal

pub returns : goal.returns
returns c = calls_kept
