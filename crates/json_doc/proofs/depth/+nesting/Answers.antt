use Rattle.std.proofs.Common.{◌≡◌, ◌∷◌, min, sym, ap, ◌∙◌, arith, refl}
use Rattle.std.proofs.lemmas.List.{take_more}
use Rattle.definitions.specs.Values.{is_well_formed, are_well_formed_members, to_members, members_nesting}
use Rattle.json_doc.specs.Docs.{value, members_view}
use Rattle.json_doc.specs.Members.{members_left, member_view, HasNamesInOrder, HasTextsAsNames}
use Rattle.json_doc.proofs.Entries.{string_is_utf8}
use Rattle.json_doc.proofs.Views.{value-Str, to_members-value}
use Rattle.json_doc.proofs.Nestings.{element_nesting, elements_nesting-snoc, are_well_formed-snoc, in_order_rest, members_form, larger_element, larger_member}
use Rattle.json_doc.proofs.depth.+nesting.Goals as goal

pub nesting-returns-in-Str-clause-well_formed : goal.nesting-returns-in-Str-clause-well_formed
nesting-returns-in-Str-clause-well_formed t c = ap is_well_formed (ap value c.in-Str.is ∙ value-Str c.in-Str.field-0) ∙ string_is_utf8 c.in-Str.field-0

pub nesting_of_items-nesting-requires : goal.nesting_of_items-nesting-requires
nesting_of_items-nesting-requires t c = (omega (arith, rw (← c.item-item.is) at (element_nesting c.args.items.now c.loop-item.item-index c.item-item.result c.loop-item-test.true)), tt)

pub nesting_of_items-loop-item-preserved : goal.nesting_of_items-loop-item-preserved
nesting_of_items-loop-item-preserved t c =
    let more = take_more c.args.items.now c.loop-item.item-index c.item-item.result c.loop-item-test.true in
    rw (more, ← c.item-item.is) (record {
      depth = c.larger-most.ensures ∙ larger_element _ _ _ _ _ c.loop-item.invariant.depth c.nesting.ensures.depth
          ∙ ap (λ n. min n 18446744073709551615) (sym (elements_nesting-snoc _ c.item-item.result));
      well_formed = are_well_formed-snoc _ c.item-item.result c.loop-item.invariant.well_formed c.nesting.ensures.well_formed;
    })

pub nesting_of_members-loop-member-init : goal.nesting_of_members-loop-member-init
nesting_of_members-loop-member-init t c =
    let all = ap members_left c.into_iter-member-iterator.ensures.into_iter_gives ∙ c.iter-member-items.ensures.all in
    let same : to_members (members_left c.into_iter-member-iterator.result) ≡ members_view c.args.members.now = to_members-value _ _ all in
    record {
      within = rw same (omega arith);
      depth = rw same (omega arith);
      ordered = rw all c.iter-member-items.ensures.ordered;
      utf8 = rw all c.iter-member-items.ensures.utf8;
      well_formed = rw same refl;
    }

pub nesting_of_members-nesting-requires : goal.nesting_of_members-nesting-requires
nesting_of_members-nesting-requires t c = (omega (arith, c.loop-member.invariant.within, ap (λ ms. members_nesting (to_members ms)) c.in-Some.ensures.steps), tt)

pub nesting_of_members-loop-member-preserved : goal.nesting_of_members-loop-member-preserved
nesting_of_members-loop-member-preserved t c =
    let l = c.loop-member.invariant in
    let first = member_view (c.in-Some.field-0-0, c.in-Some.member) in
    let step : members_left c.loop-member.member-iterator ≡ first ∷ members_left c.next.new.self = c.in-Some.ensures.steps in
    let ordered : HasNamesInOrder (first ∷ members_left c.next.new.self) = rw step at l.ordered in
    let utf8 : HasTextsAsNames (first ∷ members_left c.next.new.self) = rw step at l.utf8 in
    record {
      within = omega (arith, l.within, ap (λ ms. members_nesting (to_members ms)) step);
      depth = rw c.larger-most.ensures (larger_member _ _ _ _ _ _ (rw step at l.depth) c.nesting.ensures.depth);
      ordered = in_order_rest first _ ordered;
      utf8 = utf8.1;
      well_formed = l.well_formed ∙ ap (λ ms. are_well_formed_members (to_members ms)) step ∙ members_form first _ ordered utf8.0 c.nesting.ensures.well_formed;
    }
