use Rattle.std.proofs.Common.{◌≡◌, ◌∷◌, [], ◌++◌, map, take, refl, sym, ap, ap₂, ◌∙◌, subst, append_assoc, arith}
use Rattle.std.proofs.lemmas.List.{map-append, take_more}
use Rattle.definitions.specs.Values.{is_well_formed, are_well_formed_members, to_members}
use Rattle.lemmas.proofs.Members.{to_members-members_list}
use Rattle.json_doc.specs.Docs.{value, members_view, members_value}
use Rattle.json_doc.specs.Members.{members_left, member_view, members_with, HasNamesInOrder, HasTextsAsNames}
use Rattle.json_doc.proofs.Views.{value-Str, value-Dict-same, to_members-value}
use Rattle.json_doc.proofs.Nestings.{element_nesting, member_nesting, are_well_formed-snoc, in_order_rest, members_form}
use Rattle.json_doc.proofs.Entries.{string_is_utf8}
use Rattle.json_doc.proofs.Puts.{put_last}
use Rattle.json_doc.proofs.copying.+copy.Goals as goal

pub copy-returns-in_ok-copy_members-in-Dict-clause-ok : goal.copy-returns-in_ok-copy_members-in-Dict-clause-ok
copy-returns-in_ok-copy_members-in-Dict-clause-ok t c =
    value-Dict-same c.in_ok-copy_members-in-Dict.field-0 c.in-Dict.members c.in_ok-copy_members-in-Dict.ensures.ok ∙ sym (ap value c.in-Dict.is)

pub copy-returns-in_ok-from_str-in-Str-clause-well_formed : goal.copy-returns-in_ok-from_str-in-Str-clause-well_formed
copy-returns-in_ok-from_str-in-Str-clause-well_formed t c = ap is_well_formed (ap value c.in-Str.is ∙ value-Str c.in-Str.text) ∙ string_is_utf8 c.in-Str.text

pub copy_items-copy-requires : goal.copy_items-copy-requires
copy_items-copy-requires t c =
    (omega (arith, rw (← c.item-item.is) at (element_nesting c.args.items.now c.loop-item.item-index c.item-item.result c.loop-item-test.true)), tt)

pub copy_members-copy-requires : goal.copy_members-copy-requires
copy_members-copy-requires t c =
    let done = members_value c.loop-name.copies in
    let first = member_view (c.in-Some.name, c.in-Some.member) in
    let rest = members_left c.next.new.self in
    let all : members_value c.args.members.now ≡ done ++ first ∷ rest = c.loop-name.invariant.copies ∙ ap (λ ms. done ++ ms) c.in-Some.ensures.steps in
    let whole : to_members (done ++ first ∷ rest) ≡ members_view c.args.members.now = ap to_members (sym all) ∙ to_members-members_list (members_view c.args.members.now) in
    (omega (arith, rw whole at (member_nesting done first rest)), tt)

pub copy_items-loop-item-preserved : goal.copy_items-loop-item-preserved
copy_items-loop-item-preserved t c =
    let more = take_more c.args.items.now c.loop-item.item-index c.item-item.result c.loop-item-test.true in
    let before = take c.loop-item.item-index c.args.items.now in
    rw (more, ← c.item-item.is) (record {
      copies = ap (map value) c.in_ok-push.ensures.items ∙ map-append value c.loop-item.copies.items _
          ∙ ap₂ (λ vs v. vs ++ v ∷ []) c.loop-item.invariant.copies c.in_ok-copy.ensures.ok ∙ sym (map-append value before _);
      well_formed = are_well_formed-snoc before c.item-item.result c.loop-item.invariant.well_formed c.in_ok-copy.ensures.well_formed;
    })

pub copy_members-loop-name-init : goal.copy_members-loop-name-init
copy_members-loop-name-init t c =
    let all = ap members_left c.into_iter-name-iterator.ensures.into_iter_gives ∙ c.iter-name-items.ensures.all in
    let left = members_left c.into_iter-name-iterator.result in
    let same : to_members left ≡ members_view c.args.members.now = to_members-value _ _ all in
    record {
      copies = sym all ∙ ap (λ ms. ms ++ left) (sym c.new-copies.ensures);
      ordered = rw all c.iter-name-items.ensures.ordered;
      utf8 = rw all c.iter-name-items.ensures.utf8;
      well_formed = rw same refl;
    }

pub copy_members-loop-name-preserved : goal.copy_members-loop-name-preserved
copy_members-loop-name-preserved t c =
    let done = members_value c.loop-name.copies in
    let first = member_view (c.in-Some.name, c.in-Some.member) in
    let rest = members_left c.next.new.self in
    let step : members_left c.loop-name.name-iterator ≡ first ∷ rest = c.in-Some.ensures.steps in
    let all : members_value c.args.members.now ≡ done ++ first ∷ rest = c.loop-name.invariant.copies ∙ ap (λ ms. done ++ ms) step in
    let whole : HasNamesInOrder (done ++ first ∷ rest) = subst HasNamesInOrder all c.iter-name-items.ensures.ordered in
    let added : members_value c.insert_named.new.self ≡ done ++ first ∷ [] =
    c.in_ok-insert_named.ensures.ok ∙ ap (λ v. members_with first.0 v done) c.in_ok-copy.ensures.ok ∙ put_last done first rest whole in
    let ordered : HasNamesInOrder (first ∷ rest) = rw step at c.loop-name.invariant.ordered in
    let utf8 : HasTextsAsNames (first ∷ rest) = rw step at c.loop-name.invariant.utf8 in
    record {
      copies = all ∙ sym (append_assoc done (first ∷ []) rest) ∙ ap (λ ms. ms ++ rest) (sym added);
      ordered = in_order_rest first rest ordered;
      utf8 = utf8.1;
      well_formed = c.loop-name.invariant.well_formed ∙ ap (λ ms. are_well_formed_members (to_members ms)) step
          ∙ members_form first rest ordered utf8.0 c.in_ok-copy.ensures.well_formed;
    }
