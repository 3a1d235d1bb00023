use Rattle.std.proofs.Common.{◌≡◌, ◌+◌, ◌*◌, ◌++◌, map, take, true}
use Rattle.definitions.specs.Values.{nesting, elements_nesting, members_nesting, are_well_formed, are_well_formed_members, to_elements, to_members}
use Rattle.json_doc.specs.Docs.{value, members_view, members_value}
use Rattle.json_doc.specs.Members.{members_left, HasNamesInOrder, HasTextsAsNames}
use Rattle.json_doc.proofs.copying.+copy.Given as goal

abbrev pub decreases-copy : goal.decreases-copy
decreases-copy l = 2 * nesting (value l.doc.now)

abbrev pub decreases-copy_items : goal.decreases-copy_items
decreases-copy_items l = 2 * elements_nesting (to_elements (map value l.items.now)) + 1

abbrev pub decreases-copy_members : goal.decreases-copy_members
decreases-copy_members l = 2 * members_nesting (members_view l.members.now) + 1

abbrev pub invariant-copy_items-loop-item : goal.invariant-copy_items-loop-item
invariant-copy_items-loop-item l =
    record {
      copies : map value l.copies.items ≡ map value (take l.item-index l.items);
      well_formed : are_well_formed (to_elements (map value (take l.item-index l.items))) ≡ true;
    }

abbrev pub invariant-copy_members-loop-name : goal.invariant-copy_members-loop-name
invariant-copy_members-loop-name l =
    record {
      copies : members_value l.members ≡ members_value l.copies ++ members_left l.name-iterator;
      ordered : HasNamesInOrder (members_left l.name-iterator);
      utf8 : HasTextsAsNames (members_left l.name-iterator);
      well_formed : are_well_formed_members (members_view l.members) ≡ are_well_formed_members (to_members (members_left l.name-iterator));
    }
