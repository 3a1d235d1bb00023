use Rattle.definition_laws.proofs.Registries.{course_replies}
use Rattle.definition_laws.proofs.courses_are_replies.Goals as goal

pub returns : goal.returns
returns c = course_replies
