use Rattle.definition_laws.proofs.KeptRegistries.{course_kept}
use Rattle.definition_laws.proofs.keeping.courses_keep_registries.Goals as goal

pub returns : goal.returns
returns c = course_kept
