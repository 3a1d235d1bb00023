use Rattle.std.proofs.Common.{◌≡◌, ap, sym, ◌∙◌, arith, refl}
use Rattle.definitions.specs.Values.{to_members}
use Rattle.json_doc.specs.Docs.{members_view}
use Rattle.json_doc.specs.Members.{members_left}
use Rattle.json_doc.proofs.Views.{to_members-value}
use Rattle.json_doc.proofs.Nestings.{element_nesting}
use Rattle.json_doc.proofs.Equality.{same_elements-lengths}
use Rattle.json_doc.proofs.sameness.+same.Goals as goal

pub are_items_same-returns-then-items-others : goal.are_items_same-returns-then-items-others
are_items_same-returns-then-items-others t c = sym (same_elements-lengths c.args.items.now c.args.others.now c.if-items-others.true)

pub are_items_same-are_same-requires : goal.are_items_same-are_same-requires
are_items_same-are_same-requires t c =
    (omega (arith, rw (← c.index-items-index.is) at (element_nesting c.args.items.now c.loop-index.index c.index-items-index.result c.loop-index-test.true)), tt)

pub are_members_same-loop-name-init : goal.are_members_same-loop-name-init
are_members_same-loop-name-init t c =
    let mine : to_members (members_left c.into_iter-name-iterator.result) ≡ members_view c.args.members.now =
    to_members-value _ _ (ap members_left c.into_iter-name-iterator.ensures.into_iter_gives ∙ c.iter-name-items.ensures.all) in
    let other : to_members (members_left c.iter-left.result) ≡ members_view c.args.others.now = to_members-value _ _ c.iter-left.ensures.all in
    rw (mine, other) (record { within = omega arith; decided = refl })
