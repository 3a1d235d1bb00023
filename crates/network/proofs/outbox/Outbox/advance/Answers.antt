use Rattle.network.proofs.Sized.{changed}
use Rattle.network.proofs.outbox.Outbox.advance.Goals as goal

pub invariant_of-self : goal.invariant_of-self
invariant_of-self c = record {
  counted = c.recounted-self.ensures _ _ (changed c.args.self.now.connections (c.get_mut.follows.lender c.advance.new.self) c.args.id c.in-Some.kept.now c.advance.new.self c.size-before.result c.size.result (c.get_mut.follows.holds c.advance.new.self).0 c.in-Some.ensures.value c.size-before.ensures c.size.ensures) c.args.self.now.counted;
}
