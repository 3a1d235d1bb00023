use Rattle.std.proofs.Common.{◌∙◌}
use Rattle.std.proofs.lemmas.List.{drop_all}
use Rattle.std.specs.BTreeSet.{contains}
use Rattle.definitions.specs.Values.{same_text}
use Rattle.json_doc.specs.NamedMembers.{name_text}
use Rattle.lemmas.proofs.Texts.{text_order}
use Rattle.applicators.proofs.Growing.{next_item}
use Rattle.applicators.proofs.Seen.{added, seen-more, seen-all}
use Rattle.applicators.proofs.planning.unevaluated.names_of.Goals as goal

pub loop-name-preserved : goal.loop-name-preserved
loop-name-preserved c q =
    let x = c.name-item.result in
    let old = contains text_order c.loop-name.seen q in
    seen-more old (contains text_order c.insert.new.self q) (λ n. same_text q.now (name_text n)) x _ _ _
    (next_item c.args.names.now c.loop-name.name-index x c.loop-name-test.true c.name-item.is)
    (c.in_ok-insert.ensures.updates.0 q ∙ added c.as_str.result q (name_text x) old c.as_str.ensures) (c.loop-name.invariant q)

pub returns : goal.returns
returns c q =
    seen-all (contains text_order c.loop-name.seen q) (λ n. same_text q.now (name_text n)) _ _ (drop_all c.loop-name.name-index c.args.names.now c.loop-name-test.false) (c.loop-name.invariant q)
