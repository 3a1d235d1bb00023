-- Where references are followed.
use Rattle.std.specs.Borrow.{Bor}
use Rattle.linker.specs.declared.linked.Linked.{Linked}
use Rattle.keyword_plans.specs.declared.followed_references.FollowedReferences.{FollowedReferences}

-- in these documents
abbrev pub followed_in : FollowedReferences → Bor Linked
followed_in r = r.linked
