use Rattle.std.proofs.Common.{sym}
use Rattle.tenant_hub.proofs.CachedLinks.{fewer, left}
use Rattle.tenant_hub.proofs.links.Links.make_room.Goals as goal

pub loop-self-init : goal.loop-self-init
loop-self-init c = λ ds links. links

pub loop-self-smaller : goal.loop-self-smaller
loop-self-smaller c = rw c.pop_lru.ensures.entries (fewer c.loop-self.self.entries.entries _ (sym c.in-Some.ensures.value))

pub loop-self-preserved : goal.loop-self-preserved
loop-self-preserved c = λ ds links. rw c.pop_lru.ensures.entries (left ds c.loop-self.self (c.loop-self.invariant ds links) _ _ _ _)

pub returns-in-None : goal.returns-in-None
returns-in-None c = λ ds links. rw c.pop_lru.ensures.entries (left ds c.loop-self.self (c.loop-self.invariant ds links) _ _ _ _)

pub returns : goal.returns
returns c = c.loop-self.invariant
