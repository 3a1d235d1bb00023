use Rattle.network.proofs.Sized.{removed}
use Rattle.network.proofs.outbox.Outbox.end.Goals as goal

pub invariant_of-self : goal.invariant_of-self
invariant_of-self c = record {
  counted = c.recounted-self.ensures _ _ (removed c.args.self.now.connections c.remove.new.self c.args.id c.in-Some.kept c.size.result c.remove.ensures.entries c.in-Some.ensures.value c.size.ensures) c.args.self.now.counted;
}
