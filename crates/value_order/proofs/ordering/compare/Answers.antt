use Rattle.std.proofs.Common.{is_eq, sym, ap, ◌∙◌}
use Rattle.json_doc.specs.Docs.{value}
use Rattle.value_order.proofs.Ordered.{tied}
use Rattle.value_order.proofs.ordering.compare.Goals as goal

pub returns-clause-equal : goal.returns-clause-equal
returns-clause-equal c = ap is_eq c.compare_docs.ensures ∙ sym (tied (value c.args.first.now) (value c.args.second.now))
