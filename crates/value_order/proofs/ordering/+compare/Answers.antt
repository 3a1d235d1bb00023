use Rattle.std.proofs.Common.{◌≡◌, ap, sym, ◌∙◌, arith, refl}
use Rattle.definitions.specs.Values.{to_members}
use Rattle.json_doc.specs.Docs.{members_view}
use Rattle.json_doc.specs.Members.{members_left}
use Rattle.json_doc.proofs.Views.{to_members-value}
use Rattle.json_doc.proofs.Nestings.{element_nesting}
use Rattle.value_order.proofs.Ended.{ended_first}
use Rattle.value_order.proofs.ordering.+compare.Goals as goal

pub compare_items-compare_docs-requires : goal.compare_items-compare_docs-requires
compare_items-compare_docs-requires t c =
    (omega (arith, rw (← c.index-items-index.is) at (element_nesting c.args.items.now c.loop-index.index c.index-items-index.result c.loop-index-test.true)), tt)

pub compare_members-loop-name-init : goal.compare_members-loop-name-init
compare_members-loop-name-init t c =
    let mine : to_members (members_left c.into_iter-name-iterator.result) ≡ members_view c.args.members.now =
    to_members-value _ _ (ap members_left c.into_iter-name-iterator.ensures.into_iter_gives ∙ c.iter-name-items.ensures.all) in
    let other : to_members (members_left c.iter-left.result) ≡ members_view c.args.others.now = to_members-value _ _ c.iter-left.ensures.all in
    rw (mine, other) (record { within = omega arith; decided = refl })

pub compare_items-returns-then-items-others : goal.compare_items-returns-then-items-others
compare_items-returns-then-items-others t c =
    sym (c.loop-index.invariant ∙ ended_first c.args.items.now c.args.others.now c.loop-index.index (omega arith) (omega arith))
