use Rattle.std.proofs.Common.{◌≡◌, ◌≤◌, ◌+◌, ◌*◌, map, take, min, max, true}
use Rattle.definitions.specs.Values.{nesting, elements_nesting, members_nesting, are_well_formed, are_well_formed_members, to_elements, to_members}
use Rattle.json_doc.specs.Docs.{value, members_view}
use Rattle.json_doc.specs.Members.{members_left, HasNamesInOrder, HasTextsAsNames}
use Rattle.json_doc.proofs.depth.+nesting.Given as goal

abbrev pub decreases-nesting : goal.decreases-nesting
decreases-nesting l = 2 * nesting (value l.doc.now)

abbrev pub decreases-nesting_of_items : goal.decreases-nesting_of_items
decreases-nesting_of_items l = 2 * elements_nesting (to_elements (map value l.items.now)) + 1

abbrev pub decreases-nesting_of_members : goal.decreases-nesting_of_members
decreases-nesting_of_members l = 2 * members_nesting (members_view l.members.now) + 1

-- what the items so far have
abbrev pub invariant-nesting_of_items-loop-item : goal.invariant-nesting_of_items-loop-item
invariant-nesting_of_items-loop-item l =
    record {
      depth : l.most ≡ min (elements_nesting (to_elements (map value (take l.item-index l.items)))) 18446744073709551615;
      well_formed : are_well_formed (to_elements (map value (take l.item-index l.items))) ≡ true;
    }

-- what is left decides
abbrev pub invariant-nesting_of_members-loop-member : goal.invariant-nesting_of_members-loop-member
invariant-nesting_of_members-loop-member l =
    record {
      within : members_nesting (to_members (members_left l.member-iterator)) ≤ members_nesting (members_view l.members);
      depth : min (members_nesting (members_view l.members)) 18446744073709551615
          ≡ max l.most (min (members_nesting (to_members (members_left l.member-iterator))) 18446744073709551615);
      ordered : HasNamesInOrder (members_left l.member-iterator);
      utf8 : HasTextsAsNames (members_left l.member-iterator);
      well_formed : are_well_formed_members (members_view l.members) ≡ are_well_formed_members (to_members (members_left l.member-iterator));
    }
