use Rattle.lru.proofs.CallerLemmas.{Contains-promoted}
use Rattle.tenant_hub.specs.CachedLinks.{AreLinksOf}
use Rattle.tenant_hub.proofs.links.Links.promote.Goals as goal

pub returns-then-is_none : goal.returns-then-is_none
unfolding AreLinksOf
returns-then-is_none c = λ ds links. rw c.promote.ensures.entries (λ e among. links e (Contains-promoted _ _ e among))
