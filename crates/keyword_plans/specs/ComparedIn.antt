-- Where resources are told by their texts.
use Rattle.std.specs.Borrow.{Bor}
use Rattle.linker.specs.declared.linked.Linked.{Linked}
use Rattle.keyword_plans.specs.declared.compared_resources.ComparedResources.{ComparedResources}

-- in these documents
abbrev pub compared_in : ComparedResources → Bor Linked
compared_in r = r.linked
