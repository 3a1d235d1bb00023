use Rattle.std.proofs.Common.{List, length}
use Rattle.definitions.specs.Schemas.{Document}
use Rattle.tenant_hub.specs.CachedLinks.{AreLinksOf}
use Rattle.tenant_hub.proofs.links.Links.make_room.Given as goal

abbrev pub invariant-loop-self : goal.invariant-loop-self
invariant-loop-self l = (ds : List Document) → AreLinksOf ds l.initial.self → AreLinksOf ds l.self

abbrev pub decreases-loop-self : goal.decreases-loop-self
decreases-loop-self l = length l.self.entries.entries
