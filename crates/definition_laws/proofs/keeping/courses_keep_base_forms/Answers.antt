use Rattle.definition_laws.proofs.KeptRegistries.{course_bases_kept}
use Rattle.definition_laws.proofs.keeping.courses_keep_base_forms.Goals as goal

pub returns : goal.returns
returns c = course_bases_kept
