use Rattle.definition_laws.proofs.KeptRegistries.{course_values_kept}
use Rattle.definition_laws.proofs.keeping.courses_keep_body_values.Goals as goal

pub returns : goal.returns
returns c = course_values_kept
