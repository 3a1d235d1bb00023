use Rattle.std.proofs.Common.{◌≡◌, ◌≤◌, ◌+◌, ◌*◌, map, drop}
use Rattle.definitions.specs.Values.{nesting, elements_nesting, members_nesting, to_elements, to_members}
use Rattle.json_doc.specs.Docs.{value, members_view}
use Rattle.json_doc.specs.Members.{members_left}
use Rattle.value_order.specs.Orders.{compared_elements, compared_members}
use Rattle.value_order.proofs.ordering.+compare.Given as goal

abbrev pub decreases-compare_docs : goal.decreases-compare_docs
decreases-compare_docs l = 2 * nesting (value l.first.now)

abbrev pub decreases-compare_items : goal.decreases-compare_items
decreases-compare_items l = 2 * elements_nesting (to_elements (map value l.items.now)) + 1

abbrev pub decreases-compare_members : goal.decreases-compare_members
decreases-compare_members l = 2 * members_nesting (members_view l.members.now) + 1

-- what is left decides
abbrev pub invariant-compare_items-loop-index : goal.invariant-compare_items-loop-index
invariant-compare_items-loop-index l =
    compared_elements (to_elements (map value l.items)) (to_elements (map value l.others))
    ≡ compared_elements (to_elements (map value (drop l.index l.items))) (to_elements (map value (drop l.index l.others)))

abbrev pub invariant-compare_members-loop-name : goal.invariant-compare_members-loop-name
invariant-compare_members-loop-name l =
    record {
      within : members_nesting (to_members (members_left l.name-iterator)) ≤ members_nesting (members_view l.members);
      decided : compared_members (members_view l.members) (members_view l.others)
          ≡ compared_members (to_members (members_left l.name-iterator)) (to_members (members_left l.left));
    }
