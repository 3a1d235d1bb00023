-- What an evaluator shows.
use Rattle.linker.specs.declared.linked.Linked.{Linked}
use Rattle.evaluator.specs.declared.evaluator.Evaluator.{Evaluator}

-- what was linked
abbrev pub evaluator_linked : Evaluator → Linked
evaluator_linked e = e.evaluation.linked.now
