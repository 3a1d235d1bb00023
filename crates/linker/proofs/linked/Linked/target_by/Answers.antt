use Rattle.std.proofs.Common.{None}
use Rattle.uri_ref.specs.FragmentViews.{fragment_view}
use Rattle.linker.proofs.FirstHolders.{target_of_first}
use Rattle.linker.proofs.linked.Linked.target_by.Goals as goal

pub returns-in-None : goal.returns-in-None
returns-in-None c = target_of_first c.args.self.now c.args.uri.now (fragment_view c.args.fragment.now) None c.in-None.ensures
