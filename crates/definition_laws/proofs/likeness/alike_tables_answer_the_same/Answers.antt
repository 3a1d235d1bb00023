use Rattle.definition_laws.proofs.AlikeTables.{alike_tables_answer_the_same}
use Rattle.definition_laws.proofs.likeness.alike_tables_answer_the_same.Goals as goal

pub returns : goal.returns
returns c = alike_tables_answer_the_same
