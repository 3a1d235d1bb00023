use Rattle.std.proofs.Common.{◌≡◌, ◌≤◌, ◌+◌, ◌*◌, map, drop}
use Rattle.definitions.specs.Values.{nesting, elements_nesting, members_nesting, same_elements, same_members, to_elements, to_members}
use Rattle.json_doc.specs.Docs.{value, members_view}
use Rattle.json_doc.specs.Members.{members_left}
use Rattle.json_doc.proofs.sameness.+same.Given as goal

abbrev pub decreases-are_same : goal.decreases-are_same
decreases-are_same l = 2 * nesting (value l.first.now)

abbrev pub decreases-are_items_same : goal.decreases-are_items_same
decreases-are_items_same l = 2 * elements_nesting (to_elements (map value l.items.now)) + 1

abbrev pub decreases-are_members_same : goal.decreases-are_members_same
decreases-are_members_same l = 2 * members_nesting (members_view l.members.now) + 1

-- what is left decides
abbrev pub invariant-are_items_same-loop-index : goal.invariant-are_items_same-loop-index
invariant-are_items_same-loop-index l =
    same_elements (to_elements (map value l.items)) (to_elements (map value l.others))
    ≡ same_elements (to_elements (map value (drop l.index l.items))) (to_elements (map value (drop l.index l.others)))

abbrev pub invariant-are_members_same-loop-name : goal.invariant-are_members_same-loop-name
invariant-are_members_same-loop-name l =
    record {
      within : members_nesting (to_members (members_left l.name-iterator)) ≤ members_nesting (members_view l.members);
      decided : same_members (members_view l.members) (members_view l.others)
          ≡ same_members (to_members (members_left l.name-iterator)) (to_members (members_left l.left));
    }
