use Rattle.std.proofs.Common.{◌≡◌, ◌+◌, option_map, unwrap_or, subst, sym, ap, ◌∙◌, add-zero}
use Rattle.network.specs.Sizes.{size_of, total_size, IsCounted}
use Rattle.network.proofs.Sized.{inserted}
use Rattle.network.proofs.outbox.Outbox.open.Goals as goal

pub invariant_of-self : goal.invariant_of-self
invariant_of-self c = record {
  counted = c.recounted-self.ensures _ _ (ap (λ s. total_size c.insert.new.self + s) (c.size.ensures ∙ sym (ap (λ o. unwrap_or (option_map size_of o) 0) c.in-Some.is)) ∙ inserted c.args.self.now.connections c.insert.new.self c.args.id c.nothing.result c.in-Ok.replaced c.in-Ok.ensures.entries c.in-Ok.ensures.was_ordered c.in-Ok.ensures.old c.nothing.ensures.size) c.args.self.now.counted;
}

pub invariant_of-self-in_default : goal.invariant_of-self-in_default
invariant_of-self-in_default c =
    let e : total_size c.insert.new.self + 0 ≡ total_size c.args.self.now.connections + 0 =
    ap (λ o. total_size c.insert.new.self + unwrap_or (option_map size_of o) 0) (sym c.in_default.is)
    ∙ inserted c.args.self.now.connections c.insert.new.self c.args.id c.nothing.result c.in-Ok.replaced c.in-Ok.ensures.entries c.in-Ok.ensures.was_ordered c.in-Ok.ensures.old c.nothing.ensures.size in
    record { counted = subst (λ t. IsCounted c.args.self.now.memory t) (sym (add-zero (total_size c.args.self.now.connections)) ∙ sym e ∙ add-zero (total_size c.insert.new.self)) c.args.self.now.counted }
