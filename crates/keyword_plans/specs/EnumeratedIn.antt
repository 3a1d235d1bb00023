-- Where `enum`s are met.
use Rattle.std.specs.Borrow.{Bor}
use Rattle.linker.specs.declared.linked.Linked.{Linked}
use Rattle.keyword_plans.specs.declared.enumerations.Enumerations.{Enumerations}

-- in these documents
abbrev pub enumerated_in : Enumerations → Bor Linked
enumerated_in e = e.linked
