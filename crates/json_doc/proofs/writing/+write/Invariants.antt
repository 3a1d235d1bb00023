use Rattle.std.proofs.Common.{◌≡◌, ◌≤◌, ◌+◌, ◌*◌, ◌++◌, map, take, drop, true}
use Rattle.definitions.specs.Values.{nesting, elements_nesting, members_nesting, are_well_formed, are_well_formed_members, to_elements, to_members}
use Rattle.json_doc.specs.Docs.{value, members_view}
use Rattle.json_doc.specs.Members.{members_left, HasNamesInOrder, HasTextsAsNames}
use Rattle.json_doc.specs.Tokens.{elements_tokens, members_tokens}
use Rattle.json_doc.proofs.writing.+write.Given as goal

abbrev pub decreases-write_doc : goal.decreases-write_doc
decreases-write_doc l = 2 * nesting (value l.doc.now)

abbrev pub decreases-write_items : goal.decreases-write_items
decreases-write_items l = 2 * elements_nesting (to_elements (map value l.items.now)) + 1

abbrev pub decreases-write_members : goal.decreases-write_members
decreases-write_members l = 2 * members_nesting (members_view l.members.now) + 1

-- what is left to be written makes the text whole
abbrev pub invariant-write_items-loop-item : goal.invariant-write_items-loop-item
invariant-write_items-loop-item l =
    record {
      tokens : l.out.tokens ++ elements_tokens (to_elements (map value (drop l.item-index l.items))) ≡ l.initial.out.tokens ++ elements_tokens (to_elements (map value l.items));
      before : l.out.before ≡ l.initial.out.before;
      well_formed : are_well_formed (to_elements (map value (take l.item-index l.items))) ≡ true;
    }

abbrev pub invariant-write_members-loop-name : goal.invariant-write_members-loop-name
invariant-write_members-loop-name l =
    record {
      tokens : l.out.tokens ++ members_tokens (to_members (members_left l.name-iterator)) ≡ l.initial.out.tokens ++ members_tokens (members_view l.members);
      before : l.out.before ≡ l.initial.out.before;
      within : members_nesting (to_members (members_left l.name-iterator)) ≤ members_nesting (members_view l.members);
      ordered : HasNamesInOrder (members_left l.name-iterator);
      utf8 : HasTextsAsNames (members_left l.name-iterator);
      well_formed : are_well_formed_members (members_view l.members) ≡ are_well_formed_members (to_members (members_left l.name-iterator));
    }
