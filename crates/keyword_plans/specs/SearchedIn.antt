-- Where patterns are searched for.
use Rattle.std.specs.Borrow.{Bor}
use Rattle.linker.specs.declared.linked.Linked.{Linked}
use Rattle.keyword_plans.specs.declared.searches.Searches.{Searches}

-- in these documents
abbrev pub searched_in : Searches → Bor Linked
searched_in s = s.linked
