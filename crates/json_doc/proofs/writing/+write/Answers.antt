use Rattle.std.proofs.Common.{◌≡◌, ◌+◌, ◌++◌, ◌∷◌, [], map, drop, refl, sym, ap, ◌∙◌, append_assoc, arith}
use Rattle.std.proofs.lemmas.List.{take_more, drop_more}
use Rattle.std.proofs.lemmas.Result.{on_ok_weaker}
use Rattle.json.specs.Token.{begin_array, begin_object, key}
use Rattle.definitions.specs.Values.{is_well_formed, are_well_formed_members, to_elements, to_members, members_nesting}
use Rattle.json_doc.specs.Docs.{value, members_view}
use Rattle.json_doc.specs.Members.{members_left, member_view, HasNamesInOrder, HasTextsAsNames}
use Rattle.json_doc.specs.Tokens.{value_tokens, elements_tokens, members_tokens}
use Rattle.json_doc.proofs.Entries.{string_is_utf8}
use Rattle.json_doc.proofs.Views.{value-Str, value-List, value-Dict, to_members-value}
use Rattle.json_doc.proofs.Nestings.{element_nesting, are_well_formed-snoc, in_order_rest, members_form}
use Rattle.json_doc.proofs.writing.+write.Goals as goal

pub write_doc-returns-in-Str-clause-well_formed : goal.write_doc-returns-in-Str-clause-well_formed
write_doc-returns-in-Str-clause-well_formed t c =
    on_ok_weaker c.string.result (λ _. ap is_well_formed (ap value c.in-Str.is ∙ value-Str c.in-Str.text) ∙ string_is_utf8 c.in-Str.text) c.string.ensures.ok

pub write_doc-returns-in_ok-begin_array-in-List-clause-ok : goal.write_doc-returns-in_ok-begin_array-in-List-clause-ok
write_doc-returns-in_ok-begin_array-in-List-clause-ok t c =
    let old = c.args.out.now.tokens in
    let seen = ap value c.in-List.is ∙ value-List c.in-List.items in
    let opened : c.begin_array.new.self.tokens ≡ old ++ begin_array ∷ [] = c.in_ok-begin_array-in-List.ensures.ok in
    let rest = elements_tokens (to_elements (map value c.in-List.items.items)) in
    on_ok_weaker c.write_items.result
    (λ e. e ∙ ap (λ items. c.begin_array.new.self.tokens ++ elements_tokens (to_elements (map value items))) c.as_slice.ensures.value
    ∙ ap (λ ts. ts ++ rest) opened ∙ append_assoc old (begin_array ∷ []) rest ∙ ap (λ v. old ++ value_tokens v) (sym seen))
    c.write_items.ensures.ok

pub write_doc-returns-in_ok-begin_object-in-Dict-clause-ok : goal.write_doc-returns-in_ok-begin_object-in-Dict-clause-ok
write_doc-returns-in_ok-begin_object-in-Dict-clause-ok t c =
    let old = c.args.out.now.tokens in
    let seen = ap value c.in-Dict.is ∙ value-Dict c.in-Dict.members in
    let opened : c.begin_object.new.self.tokens ≡ old ++ begin_object ∷ [] = c.in_ok-begin_object-in-Dict.ensures.ok in
    let rest = members_tokens (members_view c.in-Dict.members) in
    on_ok_weaker c.write_members.result
    (λ e. e ∙ ap (λ ts. ts ++ rest) opened ∙ append_assoc old (begin_object ∷ []) rest ∙ ap (λ v. old ++ value_tokens v) (sym seen))
    c.write_members.ensures.ok

pub write_items-write_doc-requires : goal.write_items-write_doc-requires
write_items-write_doc-requires t c =
    (omega (arith, rw (← c.item-item.is) at (element_nesting c.args.items.now c.loop-item.item-index c.item-item.result c.loop-item-test.true)), tt)

pub write_items-loop-item-preserved : goal.write_items-loop-item-preserved
write_items-loop-item-preserved t c =
    let l = c.loop-item in
    let items = c.args.items.now in
    let item = c.item-item.result in
    let rest = elements_tokens (to_elements (map value (drop (l.item-index + 1) items))) in
    let here : drop l.item-index items ≡ item ∷ drop (l.item-index + 1) items =
    drop_more items l.item-index item c.loop-item-test.true ∙ ap (λ d. d ∷ drop (l.item-index + 1) items) (sym c.item-item.is) in
    record {
      tokens =
          ap (λ ts. ts ++ rest) c.in_ok-write_doc.ensures.ok ∙ append_assoc l.out.tokens (value_tokens (value item)) rest
          ∙ ap (λ ds. l.out.tokens ++ elements_tokens (to_elements (map value ds))) (sym here) ∙ l.invariant.tokens;
      before = c.in_ok-write_doc.ensures.before ∙ l.invariant.before;
      well_formed =
          rw (take_more items l.item-index item c.loop-item-test.true, ← c.item-item.is)
          (are_well_formed-snoc _ item l.invariant.well_formed c.in_ok-write_doc.ensures.well_formed);
    }

pub write_members-loop-name-init : goal.write_members-loop-name-init
write_members-loop-name-init t c =
    let all = ap members_left c.into_iter-name-iterator.ensures.into_iter_gives ∙ c.iter-name-items.ensures.all in
    let same : to_members (members_left c.into_iter-name-iterator.result) ≡ members_view c.args.members.now = to_members-value _ _ all in
    record {
      tokens = rw same refl;
      before = refl;
      within = rw same (omega arith);
      ordered = rw all c.iter-name-items.ensures.ordered;
      utf8 = rw all c.iter-name-items.ensures.utf8;
      well_formed = rw same refl;
    }

pub write_members-loop-name-preserved : goal.write_members-loop-name-preserved
write_members-loop-name-preserved t c =
    let l = c.loop-name in
    let first = member_view (c.in-Some.name, c.in-Some.member) in
    let left = members_left c.next.new.self in
    let rest = members_tokens (to_members left) in
    let step : members_left l.name-iterator ≡ first ∷ left = c.in-Some.ensures.steps in
    let ordered : HasNamesInOrder (first ∷ left) = rw step at l.invariant.ordered in
    let utf8 : HasTextsAsNames (first ∷ left) = rw step at l.invariant.utf8 in
    let named : c.key.new.self.tokens ≡ l.out.tokens ++ key first.0 ∷ [] = c.in_ok-key.ensures.ok in
    record {
      tokens =
          ap (λ ts. ts ++ rest) c.in_ok-write_doc.ensures.ok ∙ append_assoc c.key.new.self.tokens (value_tokens first.1) rest
          ∙ ap (λ ts. ts ++ (value_tokens first.1 ++ rest)) named ∙ append_assoc l.out.tokens (key first.0 ∷ []) (value_tokens first.1 ++ rest)
          ∙ ap (λ ms. l.out.tokens ++ members_tokens (to_members ms)) (sym step) ∙ l.invariant.tokens;
      before = c.in_ok-write_doc.ensures.before ∙ c.in_ok-key.ensures.room.0 ∙ l.invariant.before;
      within = omega (arith, l.invariant.within, ap (λ ms. members_nesting (to_members ms)) step);
      ordered = in_order_rest first _ ordered;
      utf8 = utf8.1;
      well_formed = l.invariant.well_formed ∙ ap (λ ms. are_well_formed_members (to_members ms)) step ∙ members_form first _ ordered utf8.0 c.in_ok-write_doc.ensures.well_formed;
    }
