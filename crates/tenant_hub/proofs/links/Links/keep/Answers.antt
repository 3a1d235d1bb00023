use Rattle.tenant_hub.proofs.CachedLinks.{put}
use Rattle.tenant_hub.proofs.links.Links.keep.Goals as goal

pub returns-then-is_ok : goal.returns-then-is_ok
returns-then-is_ok c = λ ds links is.
    put ds c.make_room.new.self (c.make_room.ensures ds links) c.args.uri c.args.linked is c.put.result c.put.new.self _ _ _ c.put.ensures.entries c.put.ensures.err

pub returns-else-is_ok : goal.returns-else-is_ok
returns-else-is_ok c = λ ds links is.
    put ds c.make_room.new.self (c.make_room.ensures ds links) c.args.uri c.args.linked is c.put.result c.put.new.self _ _ _ c.put.ensures.entries c.put.ensures.err
