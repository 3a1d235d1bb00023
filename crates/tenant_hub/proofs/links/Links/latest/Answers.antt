use Rattle.std.proofs.Common.{sym, ap, ◌∙◌}
use Rattle.std.proofs.lemmas.Slice.Eq.{bytes_eq-Decides}
use Rattle.std.specs.Prelude.{option_map}
use Rattle.std.specs.Map.Iter.{deref_pair}
use Rattle.tenant_hub.proofs.CachedLinks.{first}
use Rattle.tenant_hub.proofs.links.Links.latest.Goals as goal

pub returns-in-Some : goal.returns-in-Some
returns-in-Some c = λ ds links.
    let same = (bytes_eq-Decides c.as_str.result.now c.args.uri.now).0 (sym c.eq.ensures ∙ c.if-eq.true) in
    first ds c.args.self.now links c.args.uri.now c.in-Some.base.now c.in-Some.linked.now (ap (option_map deref_pair) (sym c.in-Some.is) ∙ c.peek_mru.ensures)
    (sym c.as_str.ensures.value ∙ same)
