use Rattle.std.proofs.Common.{◌≡◌, false, ap, sym, ◌∙◌, arith, refl, map}
use Rattle.std.proofs.lemmas.Bool.Decides.{nat_tests}
use Rattle.definitions.specs.Values.{to_elements, to_members}
use Rattle.definition_laws.specs.Reading.{has_arrays_within, have_arrays_within}
use Rattle.json_doc.specs.Docs.{value, members_view}
use Rattle.json_doc.specs.Members.{members_left}
use Rattle.json_doc.proofs.Views.{to_members-value}
use Rattle.json_doc.proofs.Nestings.{element_nesting}
use Rattle.tenant_hub.proofs.ArrayLengths.{of_few, of_many}
use Rattle.tenant_hub.proofs.array_lengths.+arrays.Goals as goal

pub has_short_arrays-returns-then-len-le-MOST_ELEMENTS : goal.has_short_arrays-returns-then-len-le-MOST_ELEMENTS
has_short_arrays-returns-then-len-le-MOST_ELEMENTS t c =
    c.have_short_arrays.ensures ∙ ap (λ xs. have_arrays_within 1048576 (to_elements (map value xs))) c.as_slice.ensures.value
    ∙ sym (of_few 1048576 c.args.document.now c.in-List.items c.in-List.is (omega (arith, c.len.ensures, c.if-len-le-MOST_ELEMENTS.true)))

pub has_short_arrays-returns-else-len-le-MOST_ELEMENTS : goal.has_short_arrays-returns-else-len-le-MOST_ELEMENTS
has_short_arrays-returns-else-len-le-MOST_ELEMENTS t c =
    let many : has_arrays_within 1048576 (value c.args.document.now) ≡ false =
    of_many 1048576 c.args.document.now c.in-List.items c.in-List.is (omega (arith, c.len.ensures, c.if-len-le-MOST_ELEMENTS.false)) in
    rw many (grind (arith, nat_tests))

pub have_short_arrays-has_short_arrays-requires : goal.have_short_arrays-has_short_arrays-requires
have_short_arrays-has_short_arrays-requires t c =
    (omega (arith, rw (← c.item-item.is) at (element_nesting c.args.items.now c.loop-item.item-index c.item-item.result c.loop-item-test.true)), tt)

pub members_have_short_arrays-loop-member-init : goal.members_have_short_arrays-loop-member-init
members_have_short_arrays-loop-member-init t c =
    let all : to_members (members_left c.into_iter-member-iterator.result) ≡ members_view c.args.members.now =
    to_members-value _ _ (ap members_left c.into_iter-member-iterator.ensures.into_iter_gives ∙ c.iter-member-items.ensures.all) in
    rw all (record { within = omega arith; decided = refl })
