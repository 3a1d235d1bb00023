use Rattle.std.proofs.Common.{◌≡◌, ◌≤◌, ◌+◌, ◌*◌, map, drop}
use Rattle.definitions.specs.Limits.{limits}
use Rattle.definitions.specs.Values.{nesting, elements_nesting, members_nesting, to_elements, to_members}
use Rattle.definition_laws.specs.Reading.{have_arrays_within, members_have_arrays_within}
use Rattle.json_doc.specs.Docs.{value, members_view}
use Rattle.json_doc.specs.Members.{members_left}
use Rattle.tenant_hub.proofs.array_lengths.+arrays.Given as goal

abbrev pub decreases-has_short_arrays : goal.decreases-has_short_arrays
decreases-has_short_arrays l = 2 * nesting (value l.document.now)

abbrev pub decreases-have_short_arrays : goal.decreases-have_short_arrays
decreases-have_short_arrays l = 2 * elements_nesting (to_elements (map value l.items.now)) + 1

abbrev pub decreases-members_have_short_arrays : goal.decreases-members_have_short_arrays
decreases-members_have_short_arrays l = 2 * members_nesting (members_view l.members.now) + 1

-- what is left decides
abbrev pub invariant-have_short_arrays-loop-item : goal.invariant-have_short_arrays-loop-item
invariant-have_short_arrays-loop-item l =
    have_arrays_within limits.body_bytes (to_elements (map value l.items))
    ≡ have_arrays_within limits.body_bytes (to_elements (map value (drop l.item-index l.items)))

abbrev pub invariant-members_have_short_arrays-loop-member : goal.invariant-members_have_short_arrays-loop-member
invariant-members_have_short_arrays-loop-member l =
    record {
      within : members_nesting (to_members (members_left l.member-iterator)) ≤ members_nesting (members_view l.members);
      decided : members_have_arrays_within limits.body_bytes (members_view l.members)
          ≡ members_have_arrays_within limits.body_bytes (to_members (members_left l.member-iterator));
    }
