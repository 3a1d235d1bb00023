use Rattle.std.proofs.Common.{ap}
use Rattle.tenant_hub.proofs.CachedLinks.{none_kept}
use Rattle.tenant_hub.proofs.links.Links.clear.Goals as goal

pub returns : goal.returns
returns c = λ ds. none_kept ds _ (ap (λ l. l.entries) c.clear.ensures)
